-- A stream is settled at one place.
use Rattle.std.proofs.Common.{◌≡◌, ◌≢◌, ℕ, ◌<◌, List, [], ◌++◌, length, refl, sym, ap, ◌∙◌, append_assoc}
use Rattle.std.proofs.Common.{arith, inl, inr, ◌⊎◌, Option, Some, None}
use Rattle.std.proofs.lemmas.List.{length-append}
use Rattle.hg_types.specs.declared.limits.Limits.{Limits}
use Rattle.hg_types.specs.declared.part.Part.{Part}
use Rattle.hg_chunks.proofs.CallerLemmas.{fronts}
use Rattle.hg_stream.specs.declared.fault.StreamFault.{StreamFault}
use Rattle.hg_stream.specs.declared.fault.StreamFault.TheVariants.{BadMagic}
use Rattle.hg_stream.specs.Frames.{magic}
use Rattle.hg_stream.specs.Laws.{IsSettled, AreSettledOnce}
use Rattle.hg_stream.proofs.Runs.{Decision, Closed, Faulty, ReadsOn, Settles, parts_at, run_bytes, AtParams}
use Rattle.hg_stream.proofs.OneRun as runs
use Rattle.hg_stream.proofs.Prefixes.{front_is_read}
use Rattle.hg_stream.proofs.Words.{reading_runs, whole_settles, fault_settles}

-- ---- the four bytes at the front

-- bytes that begin with the magic, and what is after it
behind_magic : (x y : List ℕ) → magic ++ x ≡ magic ++ y → x ≡ y
behind_magic x y same = (fronts magic magic x y refl same).1

-- four other bytes are not the magic
no_magic : (bytes x y : List ℕ) → length bytes ≡ 4 → bytes ≢ magic → bytes ++ x ≡ magic ++ y → ⊥
no_magic bytes x y four other same = other (fronts bytes magic x y four same).0

-- fewer than four bytes do not hold the magic
too_short : (bytes x : List ℕ) → length bytes < 4 → bytes ≡ magic ++ x → ⊥
too_short bytes x less is = omega (arith, less, ap length is, length-append magic x)

-- ---- what settles

abbrev decision_of : Option StreamFault → Decision
decision_of None = Closed
decision_of (Some fault) = Faulty fault

decisions_differ : (v w : Option StreamFault) → decision_of v ≡ decision_of w → v ≡ w
decisions_differ None None same = refl
decisions_differ None (Some g) same = absurd (cc)
decisions_differ (Some f) None same = absurd (cc)
decisions_differ (Some f) (Some g) same = cc

-- four bytes that are not the magic, or a run and what decides
pub record IsForeign {A : Type 0} (v : Option StreamFault) (bytes : List ℕ)
    (parts : List (Part A)) : Type 0 where
  pub fault : v ≡ Some BadMagic
  pub four : length bytes ≡ 4
  pub other : bytes ≢ magic
  pub none : parts ≡ []

settles : {A : Type 0} (limits : Limits) (v : Option StreamFault) (bytes : List ℕ) (parts : List (Part A))
    → IsSettled v limits bytes parts
    → IsForeign v bytes parts ⊎ Settles (decision_of v) limits bytes parts
settles limits None bytes parts is = inr (whole_settles limits bytes parts is)
settles limits (Some fault) bytes parts is = foreign_first (fault_settles fault limits bytes parts is)
  where
    foreign_first : ((fault ≡ BadMagic) × (length bytes ≡ 4) × (bytes ≢ magic) × (parts ≡ []))
        ⊎ Settles (Faulty fault) limits bytes parts → IsForeign (Some fault) bytes parts
        ⊎ Settles (Faulty fault) limits bytes parts
    foreign_first (inl foreign) =
        inl (record { fault = ap Some foreign.0; four = foreign.1; other = foreign.2; none = foreign.3 })
    foreign_first (inr settled) = inr settled

-- ---- two at one front

-- what stands after the magic, beside what follows
spelled_with : (bytes run x : List ℕ) → bytes ≡ magic ++ run → bytes ++ x ≡ magic ++ (run ++ x)
spelled_with bytes run x is = ap (λ (b : List ℕ). b ++ x) is ∙ append_assoc magic run x

both_foreign : {A : Type 0} (v w : Option StreamFault) (a b x y : List ℕ) (ps qs : List (Part A))
    → IsForeign v a ps → IsForeign w b qs → a ++ x ≡ b ++ y → (a ≡ b) × (ps ≡ qs) × (v ≡ w)
both_foreign v w a b x y ps qs fa fb same =
    ((fronts a b x y (fa.four ∙ sym fb.four) same).0, fa.none ∙ sym fb.none, fa.fault ∙ sym fb.fault)

foreign_or_settled : {A : Type 0} (limits : Limits) (v : Option StreamFault) (d : Decision) (a b x y : List ℕ)
    (ps qs : List (Part A)) → IsForeign v a ps → Settles d limits b qs → a ++ x ≡ b ++ y → ⊥
foreign_or_settled limits v d a b x y ps qs fa sb same =
    no_magic a x ((run_bytes sb.steps ++ sb.rest) ++ y) fa.four fa.other (same
    ∙ spelled_with b (run_bytes sb.steps ++ sb.rest) y sb.spelled)

both_settled : {A : Type 0} (limits : Limits) (v w : Option StreamFault) (a b x y : List ℕ)
    (ps qs : List (Part A)) → Settles (decision_of v) limits a ps → Settles (decision_of w) limits b qs
    → a ++ x ≡ b ++ y → (a ≡ b) × (ps ≡ qs) × (v ≡ w)
both_settled limits v w a b x y ps qs sa sb same =
    let run_a : List ℕ = run_bytes sa.steps ++ sa.rest in
    let run_b : List ℕ = run_bytes sb.steps ++ sb.rest in
    let behind = behind_magic (run_a ++ x) (run_b ++ y) (sym (spelled_with a run_a x sa.spelled) ∙ same
    ∙ spelled_with b run_b y sb.spelled) in
    let one = runs.one_decision limits AtParams sa.steps sb.steps sa.place sb.place sa.rest sb.rest x y
    (decision_of v) (decision_of w) sa.run sb.run sa.decides sb.decides behind in (
      sa.spelled ∙ ap (λ (t : List ℕ). magic ++ t) one.0 ∙ sym sb.spelled,
      sym sa.parts_are ∙ ap parts_at one.1
          ∙ sb.parts_are,
      decisions_differ v w one.2,
    )

settled_where : {A : Type 0} (limits : Limits) (v w : Option StreamFault) (a b x y : List ℕ)
    (ps qs : List (Part A))
    → IsForeign v a ps ⊎ Settles (decision_of v) limits a ps → IsForeign w b qs
    ⊎ Settles (decision_of w) limits b qs → a ++ x ≡ b ++ y → (a ≡ b) × (ps ≡ qs) × (v ≡ w)
settled_where limits v w a b x y ps qs (inl fa) (inl fb) same = both_foreign v w a b x y ps qs fa fb same
settled_where limits v w a b x y ps qs (inl fa) (inr sb) same =
    absurd (foreign_or_settled limits v (decision_of w) a b x y ps qs fa sb same)
settled_where limits v w a b x y ps qs (inr sa) (inl fb) same =
    absurd (foreign_or_settled limits w (decision_of v) b a y x qs ps fb sa (sym same))
settled_where limits v w a b x y ps qs (inr sa) (inr sb) same =
    both_settled limits v w a b x y ps qs sa sb same

-- ---- what is still read

abbrev IsRead : {A : Type 0} → Limits → List ℕ → List (Part A) → Type 0
IsRead limits bytes parts = ((length bytes < 4) × (parts ≡ [])) ⊎ ReadsOn limits bytes parts

read_once : {A : Type 0} (limits : Limits) (bytes : List ℕ) (ps qs : List (Part A)) → IsRead limits bytes ps
    → IsRead limits bytes qs → ps ≡ qs
read_once limits bytes ps qs (inl a) (inl b) = a.1 ∙ sym b.1
read_once limits bytes ps qs (inl a) (inr b) =
    absurd (too_short bytes (run_bytes b.steps ++ b.rest) a.0 b.spelled)
read_once limits bytes ps qs (inr a) (inl b) =
    absurd (too_short bytes (run_bytes a.steps ++ a.rest) b.0 a.spelled)
read_once limits bytes ps qs (inr a) (inr b) =
    let run_a : List ℕ = run_bytes a.steps ++ a.rest in
    let run_b : List ℕ = run_bytes b.steps ++ b.rest in
    let place = runs.one_reading limits AtParams a.steps b.steps a.place b.place a.rest b.rest a.run b.run
    a.partial b.partial (behind_magic run_a run_b (sym a.spelled ∙ b.spelled)) in
    sym a.parts_are ∙ ap parts_at place ∙ b.parts_are

not_read : {A : Type 0} (limits : Limits) (v : Option StreamFault) (a x : List ℕ) (ps qs : List (Part A))
    → IsForeign v a ps ⊎ Settles (decision_of v) limits a ps → IsRead limits (a ++ x) qs → ⊥
not_read limits v a x ps qs (inl foreign) (inl short) =
    omega (arith, length-append a x, foreign.four, short.0)
not_read limits v a x ps qs (inl foreign) (inr reads) =
    no_magic a x (run_bytes reads.steps ++ reads.rest) foreign.four foreign.other reads.spelled
not_read limits v a x ps qs (inr settled) (inl short) =
    let run : List ℕ = run_bytes settled.steps ++ settled.rest in
    too_short (a ++ x) (run ++ x) short.0 (spelled_with a run x settled.spelled)
not_read limits v a x ps qs (inr settled) (inr reads) =
    let run : List ℕ = run_bytes settled.steps ++ settled.rest in
    let read : List ℕ = run_bytes reads.steps ++ reads.rest in
    let behind = behind_magic (run ++ x) read (sym (spelled_with a run x settled.spelled) ∙ reads.spelled) in
    runs.no_way_back limits AtParams settled.steps reads.steps settled.place reads.place settled.rest
    reads.rest x (decision_of v) settled.run reads.run settled.decides reads.partial behind

pub settled_once : (A : Type 0) (limits : Limits) → AreSettledOnce A limits
settled_once A limits = record {
  read_before = λ front behind byte parts v settled. front_is_read limits front byte behind parts v settled;
  one_place = λ a b x y ps qs v w sa sb same. settled_where limits v w a b x y ps qs
      (settles limits v a ps sa) (settles limits w b qs sb) same;
  not_read_after = λ a x ps qs v sa rb. not_read limits v a x ps qs (settles limits v a ps sa)
      (reading_runs limits (a ++ x) qs rb);
  one_reading = λ bytes ps qs ra rb. read_once limits bytes ps qs (reading_runs limits bytes ps ra)
      (reading_runs limits bytes qs rb);
}
