-- What a crash leaves in each of the two steps of an append.
use Rattle.std.proofs.Common.{◌≡◌, inl, inr, ℕ, ◌+◌, ◌<◌, List, [], ◌∷◌, ◌++◌, length, take, drop}
use Rattle.std.proofs.Common.{refl, sym, ◌∙◌, ap, subst, arith, append_assoc, length-append, take-append-drop}
use Rattle.std.proofs.lemmas.List.{append-nil, take_at, drop_at}
use Rattle.std.specs.List.{AllByRecursion}
use Rattle.std.specs.Prelude.{Err, Ok, OnOk, Result}
use Rattle.hg_store.specs.declared.head.Head.{Head}
use Rattle.hg_store.specs.Entries.{Entry}
use Rattle.hg_store.specs.declared.head.Version.{Version}
use Rattle.hg_store.specs.code.Fronts.{Begins}
use Rattle.hg_store.specs.Device.{Overwrites, Torn, Only}
use Rattle.hg_store.specs.code.Batches.{ungated}
use Rattle.hg_store.specs.code.Steps.{MayBeTorn}
use Rattle.hg_store.specs.Files.{IsStore, StandsFor, digest_behind, stored}
use Rattle.hg_store.specs.Head.{IsHead, first_digest, head_bytes, version_of}
use Rattle.hg_store.specs.Log.{IsBeforeOrAfter, IsSettled, IsSettledAt, at_rest}
use Rattle.hg_store.specs.declared.head.Version.TheVariants.{Second}
use Rattle.hg_store.specs.declared.log.Log.{Log}
use Rattle.hg_store.specs.Records.{IsRecord, frames, last_digest, open_gate, shut}
use Rattle.hg_store.proofs.Frames.{each-append, last_digest-append, stored-append}

-- a shut gate ends the records, whatever stands after it
pub closed_store : (head : Head) (records : List Entry) (more : List ℕ) → IsHead head
    → AllByRecursion (IsRecord (version_of head)) records → IsStore (stored head records ++ 0 ∷ more) head records (0 ∷ more)
closed_store head records more allowed each = record {
  behind = frames (version_of head) (first_digest head) records ++ 0 ∷ more;
  begins = record {
    spelled = append_assoc (head_bytes head) (frames (version_of head) (first_digest head) records) (0 ∷ more);
    allowed = allowed;
  };
  reads = record { each = each; ends = inl (shut more refl); spelled = refl };
}

pub closed : (head : Head) (records : List Entry) (more : List ℕ) → IsHead head
    → AllByRecursion (IsRecord (version_of head)) records → StandsFor head records (stored head records ++ 0 ∷ more)
closed head records more allowed each = (
  0 ∷ more,
  closed_store head records more allowed each,
  shut more
      refl,
)

-- and so a file at rest stands for its records
pub rests : (head : Head) (records : List Entry) (file : List ℕ) (outcomes : List ℕ → Type 0)
    → IsHead head → AllByRecursion (IsRecord (version_of head)) records → file ≡ at_rest head records
    → Only file outcomes
    → (c : List ℕ) → outcomes c → StandsFor head records c
rests head records file outcomes allowed each is only c left =
    subst (StandsFor head records) (sym (only c left ∙ is)) (closed head records [] allowed each)

pub length-at_rest : (head : Head) (records : List Entry)
    → length (at_rest head records) ≡ length (stored head records) + 1
length-at_rest head records = omega (arith, length-append (stored head records) (0 ∷ []))

-- the shut gate stands in each outcome that begins with the file of before
pub begun : (head : Head) (records : List Entry) → IsHead head → AllByRecursion (IsRecord (version_of head)) records
    → (c : List ℕ) → Begins (at_rest head records) c → StandsFor head records c
begun head records allowed each c front =
    let at : ℕ = length (at_rest head records) in
    let spelled : c ≡ stored head records ++ 0 ∷ drop at c =
    sym (take-append-drop at c) ∙ ap (λ (l : List ℕ). l ++ drop at c) front
    ∙ append_assoc (stored head records) (0 ∷ []) (drop at c) in
    subst (StandsFor head records) (sym spelled) (closed head records (drop at c) allowed each)

gated : (version : Version) (before : List ℕ) (batch : List Entry) → 0 < length batch
    → open_gate version ∷ ungated version before batch ≡ frames version before batch ++ 0 ∷ []
gated version before [] some = absurd (omega (arith, some))
gated version before (r ∷ rs) some = refl

module _ (head : Head) (records batch : List Entry) (allowed : IsHead head)
    (each : AllByRecursion (IsRecord (version_of head)) records) (others : AllByRecursion (IsRecord (version_of head)) batch)
    (some : 0 < length batch) where
  -- the file with a batch after the shut gate
  abbrev pub staged : List ℕ
  staged = stored head records ++ 0 ∷ ungated (version_of head) (digest_behind head records) batch

  pub written_behind : (c : List ℕ) → c ≡ at_rest head records ++ ungated (version_of head) (digest_behind head records) batch
      → c ≡ staged
  written_behind c is = is ∙ append_assoc (stored head records) (0 ∷ [])
      (ungated (version_of head) (digest_behind head records) batch)

  front : take (length (stored head records)) staged ≡ stored head records
  front = take_at (stored head records) (0 ∷ ungated (version_of head) (digest_behind head records) batch) _ refl

  staged_split : staged ≡ at_rest head records ++ ungated (version_of head) (digest_behind head records) batch
  staged_split = sym (append_assoc (stored head records) (0 ∷ [])
      (ungated (version_of head) (digest_behind head records) batch))

  back : drop (length (stored head records) + 1) staged ≡ ungated (version_of head) (digest_behind head records) batch
  back = ap (drop (length (stored head records) + 1)) staged_split
      ∙ drop_at (at_rest head records) (ungated (version_of head) (digest_behind head records) batch) _
      (length-at_rest head records)

  -- with its gate open, the batch stands after the records
  pub opened : stored head records ++ open_gate (version_of head) ∷ ungated (version_of head) (digest_behind head records) batch
      ≡ at_rest head (records ++ batch)
  opened =
      ap (λ (l : List ℕ). stored head records ++ l) (gated (version_of head) (digest_behind head records) batch some)
      ∙ sym (append_assoc (stored head records) (frames (version_of head) (digest_behind head records) batch) (0 ∷ []))
      ∙ ap (λ (l : List ℕ). l ++ 0 ∷ []) (sym (stored-append head records batch))

  pub all_each : AllByRecursion (IsRecord (version_of head)) (records ++ batch)
  all_each = each-append (version_of head) records batch each others

  pub written_gate : (c : List ℕ) → Overwrites staged (length (stored head records)) (open_gate (version_of head) ∷ []) c
      → c ≡ at_rest head (records ++ batch)
  written_gate c holds =
      holds
      ∙ ap (λ (l : List ℕ). l ++ (open_gate (version_of head) ∷ []) ++ drop (length (stored head records) + 1) staged) front
      ∙ ap (λ (l : List ℕ). stored head records ++ (open_gate (version_of head) ∷ []) ++ l) back
      ∙ append_assoc (stored head records) (open_gate (version_of head) ∷ []) (ungated (version_of head) (digest_behind head records) batch)
      ∙ opened

  staged_stands : StandsFor head records staged
  staged_stands = closed head records (ungated (version_of head) (digest_behind head records) batch) allowed each

  -- the batch stands whole in each outcome of the second write, or its gate is shut
  pub torn_gate : (c : List ℕ) → Torn (length (stored head records)) (open_gate (version_of head) ∷ []) staged c
      → IsBeforeOrAfter head records batch c
  torn_gate c torn = elim (torn.one_byte refl) [
    | inl same ↦ inl (subst (StandsFor head records) (sym same) staged_stands)
    | inr held ↦ inr (subst (StandsFor head (records ++ batch)) (sym (written_gate c held))
        (closed head (records ++ batch) [] allowed all_each))
  ]

  pub gate_crash : (old : List ℕ → Type 0) → Only staged old → (c : List ℕ)
      → MayBeTorn (length (stored head records)) (open_gate (version_of head) ∷ []) old c → IsBeforeOrAfter head records batch c
  gate_crash old only c (inl left) = inl (subst (StandsFor head records) (sym (only c left)) staged_stands)
  gate_crash old only c (inr torn) =
      torn_gate c (subst (λ f. Torn (length (stored head records)) (open_gate (version_of head) ∷ []) f c) (only torn.0 torn.1) torn.2)

-- the same write, told of equal values
pub holds_same : (old other : List ℕ) (at there : ℕ) (bytes more new : List ℕ) → old ≡ other → at ≡ there
    → bytes ≡ more → Overwrites old at bytes new → Overwrites other there more new
holds_same old other at there bytes more new a b c held =
    held ∙ (λ i. take (b i) (a i) ++ c i ++ drop (b i + length (c i)) (a i))

-- where an answer is Ok, two things that hold of it say a third
pub on_ok_both : {T E : Type 0} {P Q R : Type 0} (r : Result T E) → (P → Q → R) → OnOk r P → OnOk r Q → OnOk r R
on_ok_both (Ok x) f p q = f p q
on_ok_both (Err e) f p q = tt

-- the shut gate, written over itself
pub shut_again : (head : Head) (records : List Entry) (c : List ℕ)
    → Overwrites (at_rest head records) (length (stored head records)) (0 ∷ []) c → c ≡ at_rest head records
shut_again head records c holds =
    let at : ℕ = length (stored head records) in
    holds
    ∙ ap (λ (l : List ℕ). l ++ (0 ∷ []) ++ drop (at + 1) (at_rest head records))
    (take_at (stored head records) (0 ∷ []) _ refl)
    ∙ ap (λ (l : List ℕ). stored head records ++ (0 ∷ []) ++ drop (at + 1) l) (sym (append-nil (at_rest head records)))
    ∙ ap (λ (l : List ℕ). stored head records ++ (0 ∷ []) ++ l)
    (drop_at (at_rest head records) [] _ (length-at_rest head records))
    ∙ append_assoc (stored head records) (0 ∷ []) []

-- a log whose gate is written over itself
module _ {D : Type 0} (seen : D → List ℕ) (may_leave : D → List ℕ → Type 0) (head : Head) (records : List Entry)
    (log : Log D) (s : IsSettled seen may_leave head records log) where
  -- whatever a crash leaves of it stands for its records
  pub beat_leaves : (c : List ℕ) → MayBeTorn log.end (0 ∷ []) (may_leave log.device) c → StandsFor head records c
  beat_leaves c (inl left) =
      rests head records (seen log.device) (may_leave log.device) s.allowed s.each s.file s.durable c left
  beat_leaves c (inr torn) = elim (torn.2.one_byte refl) [
    | inl same ↦ subst (StandsFor head records) (sym same)
        (rests head records (seen log.device) (may_leave log.device) s.allowed s.each s.file s.durable torn.0 torn.1)
    | inr held ↦ subst (StandsFor head records) (sym (shut_again head records c
        (holds_same torn.0 (at_rest head records) log.end (length (stored head records)) (0 ∷ []) (0 ∷ []) c
        (s.durable torn.0 torn.1 ∙ s.file) s.place refl held)))
        (closed head records [] s.allowed s.each)
  ]

  -- and once it is synced, it is as it was
  pub beat_settled : (new : D) → Overwrites (seen log.device) log.end (0 ∷ []) (seen new)
      → Only (seen new) (may_leave new) → IsSettledAt seen may_leave head records new log.end log.digest
  beat_settled new held durable = record {
    allowed = s.allowed;
    version = s.version;
    each = s.each;
    file = shut_again head records (seen new)
        (holds_same (seen log.device) (at_rest head records) log.end (length (stored head records)) (0 ∷ []) (0 ∷ [])
        (seen new) s.file s.place refl held);
    place = s.place;
    chained = s.chained;
    durable = durable;
  }

-- a log to which a batch is added
module _ {D : Type 0} (seen : D → List ℕ) (may_leave : D → List ℕ → Type 0) (head : Head) (records batch : List Entry)
    (log : Log D) (s : IsSettled seen may_leave head records log) where
  -- until its first gate is opened it has the records of before
  pub has_begun : (c : List ℕ) → Begins (seen log.device) c → IsBeforeOrAfter head records batch c
  has_begun c front =
      inl (begun head records s.allowed s.each c (subst (λ (file : List ℕ). Begins file c) s.file front))

  module _ (some : 0 < length batch) (each : AllByRecursion (IsRecord Second) batch) (mid : D) (at : ℕ)
      (written : seen mid ≡ seen log.device ++ ungated Second log.digest batch) (same : at ≡ log.end) where
    pub others : AllByRecursion (IsRecord (version_of head)) batch
    others = subst (λ (v : Version). AllByRecursion (IsRecord v) batch) (sym s.version) each

    pub is_staged : seen mid ≡ staged head records batch s.allowed s.each others some
    is_staged =
        written_behind head records batch s.allowed s.each others some (seen mid) (written
        ∙ ap (λ (file : List ℕ). file ++ ungated Second log.digest batch) s.file
        ∙ ap (λ (d : List ℕ). at_rest head records ++ ungated Second d batch) s.chained
        ∙ ap (λ (v : Version). at_rest head records ++ ungated v (digest_behind head records) batch) (sym s.version))

    gate : 255 ∷ [] ≡ open_gate (version_of head) ∷ []
    gate = ap (λ (v : Version). open_gate v ∷ []) (sym s.version)

    place : at ≡ length (stored head records)
    place = same ∙ s.place

    -- the first gate leaves them with the batch or without
    pub gate_leaves : Only (seen mid) (may_leave mid) → (c : List ℕ) → MayBeTorn at (255 ∷ []) (may_leave mid) c
        → IsBeforeOrAfter head records batch c
    gate_leaves durable c left =
        gate_crash head records batch s.allowed s.each others some (may_leave mid)
        (subst (λ (file : List ℕ). Only file (may_leave mid)) is_staged durable) c
        (subst (λ (bytes : List ℕ). MayBeTorn (length (stored head records)) bytes (may_leave mid) c) gate
        (subst (λ (n : ℕ). MayBeTorn n (255 ∷ []) (may_leave mid) c) place left))

    -- and then the batch is on the disk
    pub added : (new : D) (end : ℕ) (digest : List ℕ) → Overwrites (seen mid) at (255 ∷ []) (seen new)
        → Only (seen new) (may_leave new) → end + 1 ≡ length (seen mid) → digest ≡ last_digest Second log.digest batch
        → IsSettledAt seen may_leave head (records ++ batch) new end digest
    added new end digest holds durable end_is digest_is =
        let file : seen new ≡ at_rest head (records ++ batch) =
        written_gate head records batch s.allowed s.each others some (seen new)
        (holds_same (seen mid) (staged head records batch s.allowed s.each others some) at
        (length (stored head records)) (255 ∷ []) (open_gate (version_of head) ∷ []) (seen new) is_staged place gate
        holds) in
        let more : List ℕ = ungated (version_of head) (digest_behind head records) batch in
        record {
          allowed = s.allowed;
          version = s.version;
          each = all_each head records batch s.allowed s.each others some;
          file = file;
          place = omega (
            arith,
            end_is,
            ap length is_staged,
            length-append (stored head records) (0 ∷ more),
            length-append (stored head records) (open_gate (version_of head) ∷ more),
            ap length (opened head records batch s.allowed s.each others some),
            length-append (stored head (records ++ batch)) (0 ∷ []),
          );
          chained = digest_is
              ∙ ap (λ (d : List ℕ). last_digest Second d batch) s.chained
              ∙ ap (λ (v : Version). last_digest v (digest_behind head records) batch) (sym s.version)
              ∙ sym (last_digest-append (version_of head) (first_digest head) records batch);
          durable = durable;
        }
