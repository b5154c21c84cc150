-- Bytes that wait, and one read where none do.
use Rattle.std.proofs.Common.{ℕ, ◌≡◌, ◌≢◌, ◌≤◌, inl, inr, List, [], ◌∷◌, ◌++◌, refl, sym, ◌∙◌}
use Rattle.std.proofs.Common.{ap, subst, arith, rules, length, map, append_assoc, Option, Some, None}
use Rattle.std.specs.List.{concat}
use Rattle.std.proofs.lemmas.List.{append-nil, map-append}
use Rattle.std.proofs.lemmas.List.Elements.{All-append, All-cons}
use Rattle.std.proofs.lemmas.List.Folds.{concat-append}
use Rattle.std.proofs.KnownBytes.{Consumes-trans}
use Rattle.std.specs.Io.KnownBytes.{Consumes}
use Rattle.hg_types.specs.declared.part.Part.{Part}
use Rattle.hg_types.specs.declared.limits.Limits.{Limits}
use Rattle.hg_stream.specs.declared.state.State.{State}
use Rattle.hg_stream.specs.declared.state.State.TheVariants.{Reading as going}
use Rattle.hg_stream.specs.declared.unbundler.Unbundler.{Unbundler}
use Rattle.hg_stream.specs.Unbundler.{HoldsBundle, limits_of, ready_of, state_of}
use Rattle.hg_stream.specs.Faults.{StateTells}
use Rattle.hg_connection.specs.Devices.{Input, ReadAnswer, Gave, Failed, TellsMore, ReadsOnce}
use Rattle.hg_connection.proofs.DeviceLemmas.{Adds-trans}
use Rattle.hg_connection.specs.declared.bundle_end.BundleEnd.{BundleEnd}
use Rattle.hg_connection.specs.declared.bundle_end.BundleEnd.TheVariants.{Whole, Fault, InputEnded, ReadFailed}
use Rattle.hg_connection.specs.Receiving.{IsPiece, IsReceivedFrom, KeepsWaiting, Ran, StopsBundle, last_read, state_at}
use Rattle.hg_connection.specs.Turns.{Fills, IsReceiving, ReadsMore}

-- bytes wait, and nothing is read
pub fills_none : (before : List ℕ) (input : Input) → before ≢ [] → Fills before before input input None
fills_none before input some = inl (some, refl, refl, refl)

-- no byte waits, and one read is made
pub fills_one : (before after : List ℕ) (input left : Input) (result : Option BundleEnd) → before ≡ []
    → ReadsMore after input left result → Fills before after input left result
fills_one before after input left result none read = inr (none, read)

-- what the reader of bundles tells
pub told : {A : Type 0} (limits : Limits) (u : Unbundler A) (state : State) (bytes : List ℕ)
    (given : List (Part A)) → state_of u ≡ state → limits_of u ≡ limits → HoldsBundle u given bytes
    → StateTells state limits bytes (given ++ ready_of u)
told {A} limits u state bytes given is same holds =
    subst (λ (l : Limits). StateTells state l bytes (given ++ ready_of u)) same
    (subst (λ (st : State). StateTells st (limits_of u) bytes (given ++ ready_of u)) is holds.tells)

pub empty : {X : Type 0} (ys : List X) → length ys ≡ 0 → ys ≡ []
empty [] z = refl
empty (y ∷ ys) z = absurd (omega (arith, z))

some_wait : (xs ys : List ℕ) → xs ≢ [] → ys ≡ xs → 1 ≤ length ys
some_wait [] ys some same = absurd (some refl)
some_wait (x ∷ xs) ys some same = let e : length ys ≡ length (x ∷ xs) = ap (λ (l : List ℕ). length l) same in
    omega (arith, e)

joined_more : (pieces : List (List ℕ)) (piece : List ℕ) → concat (pieces ++ piece ∷ []) ≡ concat pieces
    ++ piece
joined_more pieces piece = concat-append pieces (piece ∷ []) ∙ ap (λ l. concat pieces ++ l) (append-nil piece)

-- a piece came
piece_came : {A : Type 0} (limits : Limits) (waited : List ℕ) (input : Input) (fed waiting piece : List ℕ)
    (mid left : Input) (u : Unbundler A) (given : List (Part A))
    → IsReceiving limits waited input fed waiting mid u given → waiting ≡ [] → ReadsOnce mid left (Gave piece)
    → IsPiece piece → IsReceiving limits waited input fed piece left u given
piece_came {A} limits waited input fed waiting piece mid left u given r none once is =
    let joined = joined_more r.pieces piece in
    let whole : waited ++ concat r.pieces ≡ fed = r.spelled ∙ ap (λ (l : List ℕ). fed ++ l) none
    ∙ append-nil fed in
    record {
      holds = r.holds;
      limits_are = r.limits_are;
      state = r.state;
      pieces = r.pieces ++ piece ∷ [];
      each = All-append IsPiece r.pieces (piece ∷ []) r.each (All-cons IsPiece piece [] is (search rules));
      bytes = subst (Consumes input.left left.left) (sym joined)
          (Consumes-trans input.left mid.left left.left (concat r.pieces) piece r.bytes once.bytes);
      told = subst (TellsMore input.reads left.reads) (sym (map-append Gave r.pieces (piece ∷ [])))
          (Adds-trans input.reads mid.reads left.reads (map Gave r.pieces) (Gave piece ∷ []) r.told once.told);
      spelled = ap (λ (l : List ℕ). waited ++ l) joined ∙ sym (append_assoc waited (concat r.pieces) piece)
          ∙ ap (λ (l : List ℕ). l ++ piece) whole;
      place = inr (inr (r.pieces, refl, sym whole));
    }

-- bytes wait then
pub filled : {A : Type 0} (limits : Limits) (waited : List ℕ) (input : Input) (fed waiting before : List ℕ)
    (mid left : Input) (u : Unbundler A) (given : List (Part A))
    → IsReceiving limits waited input fed waiting mid u given → Fills waiting before mid left None
    → (1 ≤ length before) × IsReceiving limits waited input fed before left u given
filled {A} limits waited input fed waiting before mid left u given r f = elim f [
  | inl waits ↦ (
    some_wait waiting before waits.0 waits.1,
    subst (λ (y : List ℕ × Input). IsReceiving limits waited input fed y.0 y.1 u given)
        (λ i. (sym waits.1 i, sym waits.2 i)) r,
  )
  | inr read ↦ (
    read.1.1.0,
    piece_came limits waited input fed waiting before mid left u given r read.0 read.1.0 read.1.1,
  )
]

-- a read that gave nothing, or failed, was the last
ends : {A : Type 0} (ending : BundleEnd) (answer : ReadAnswer) (limits : Limits) (waited : List ℕ) (input : Input)
    (fed waiting after : List ℕ) (mid left : Input) (u : Unbundler A) (given : List (Part A))
    → IsReceiving limits waited input fed waiting mid u given → waiting ≡ []
    → Consumes mid.left left.left [] → TellsMore mid.reads left.reads (answer ∷ []) → state_at ending ≡ going
    → last_read ending ≡ answer ∷ []
    → ((pieces : List (List ℕ)) → StopsBundle A ending limits waited pieces fed [])
    → KeepsWaiting ending [] after → Ran ending left
    → IsReceivedFrom limits waited after input left ending (given ++ ready_of u)
ends {A} ending answer limits waited input fed waiting after mid left u given r none nothing once at last stops
    keeps ran =
    let spelled : waited ++ concat r.pieces ≡ fed ++ [] = r.spelled ∙ ap (λ (l : List ℕ). fed ++ l) none in
    let within = (told limits u going fed given r.state r.limits_are r.holds).1 in
    record {
      consumed = fed;
      rest = [];
      reads = map Gave r.pieces ++ last_read ending;
      more = concat r.pieces;
      received = record {
        pieces = r.pieces;
        each = r.each;
        reads_are = refl;
        spelled = spelled;
        tells = told limits u (state_at ending) fed given (r.state ∙ sym at) r.limits_are r.holds;
        stops = stops r.pieces;
        bound = omega (arith, within);
      };
      spelled = spelled;
      bytes = subst (Consumes input.left left.left) (append-nil (concat r.pieces))
          (Consumes-trans input.left mid.left left.left (concat r.pieces) [] r.bytes nothing);
      told = subst (TellsMore input.reads left.reads)
          (ap (λ (l : List ReadAnswer). map Gave r.pieces ++ l) (sym last))
          (Adds-trans input.reads mid.reads left.reads (map Gave r.pieces) (answer ∷ []) r.told once);
      keeps = keeps;
      ran = ran;
    }

-- nothing waited where a read was made
pub none_waits : (before after : List ℕ) (input left : Input) (ending : BundleEnd)
    → Fills before after input left (Some ending) → (before ≡ []) × ReadsMore after input left (Some ending)
none_waits before after input left ending f = elim f [
  | inl waits ↦ (let e : Some ending ≡ None = waits.3 in absurd cc)
  | inr read ↦ read
]

-- no more came
pub fill_ends : {A : Type 0} (limits : Limits) (waited : List ℕ) (input : Input) (fed waiting after : List ℕ)
    (mid left : Input) (u : Unbundler A) (given : List (Part A)) (ending : BundleEnd)
    → IsReceiving limits waited input fed waiting mid u given → Fills waiting after mid left (Some ending)
    → IsReceivedFrom limits waited after input left ending (given ++ ready_of u)
fill_ends limits waited input fed waiting after mid left u given Whole r f =
    absurd (none_waits waiting after mid left Whole f).1
fill_ends limits waited input fed waiting after mid left u given (Fault fault) r f =
    absurd (none_waits waiting after mid left (Fault fault) f).1
fill_ends limits waited input fed waiting after mid left u given InputEnded r f =
    let n = none_waits waiting after mid left InputEnded f in
    ends InputEnded (Gave []) limits waited input fed waiting after mid left u given r n.0 n.1.1.bytes
    n.1.1.told refl refl (λ pieces. refl) tt n.1.2
fill_ends limits waited input fed waiting after mid left u given ReadFailed r f =
    let n = none_waits waiting after mid left ReadFailed f in
    ends ReadFailed Failed limits waited input fed waiting after mid left u given r n.0 n.1.1.bytes
    n.1.1.told refl refl (λ pieces. refl) tt tt

-- no read sees an end mark
pub fill_not_whole : (before after : List ℕ) (input left : Input) (ending : BundleEnd)
    → Fills before after input left (Some ending) → ending ≢ Whole
fill_not_whole before after input left Whole f =
    absurd (none_waits before after input left Whole f).1
fill_not_whole before after input left (Fault fault) f = λ e. absurd cc
fill_not_whole before after input left InputEnded f = λ e. absurd cc
fill_not_whole before after input left ReadFailed f = λ e. absurd cc
