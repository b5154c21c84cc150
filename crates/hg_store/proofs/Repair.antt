-- What a crash leaves while the end of a store is brought in order.
use Rattle.std.proofs.Common.{◌≡◌, inl, inr, ℕ, zero, suc, ◌+◌, ◌-◌, ◌<◌, ◌≤◌, List, [], ◌∷◌, ◌++◌, length, take, drop}
use Rattle.std.proofs.Common.{refl, sym, ◌∙◌, ap, subst, arith, append_assoc, length-append, Result, Ok, Err}
use Rattle.std.specs.Prelude.{IfOk, OnOk}
use Rattle.std.proofs.lemmas.List.{take_all, drop_all, append-nil}
use Rattle.hg_store.specs.declared.head.Head.{Head}
use Rattle.hg_store.specs.Entries.{Entry}
use Rattle.hg_store.specs.code.Batches.{EndsAt}
use Rattle.hg_store.specs.code.Steps.{MayBeCut, MayBeTorn}
use Rattle.hg_store.specs.declared.head.Version.TheVariants.{First}
use Rattle.hg_store.specs.Device.{Cut, Overwrites, Only, Torn}
use Rattle.hg_store.specs.Files.{IsOldStore, IsStore, IsTornStore, StandsFor, stored}
use Rattle.hg_store.specs.Head.{first_digest, head_bytes, version_of}
use Rattle.hg_store.specs.Log.{at_rest}
use Rattle.hg_store.specs.Records.{IsEnd, IsTorn, over, shut, frames}
use Rattle.hg_store.proofs.Crash.{closed}
use Rattle.hg_store.proofs.OneReading.{one_reading_lem}

pub spelled : (head : Head) (records : List Entry) (file tail : List ℕ) → IsStore file head records tail
    → file ≡ stored head records ++ tail
spelled head records file tail store =
    store.begins.spelled ∙ ap (λ (l : List ℕ). head_bytes head ++ l) store.reads.spelled
    ∙ sym (append_assoc (head_bytes head) (frames (version_of head) (first_digest head) records) tail)

take_past : (n m : ℕ) (xs ys : List ℕ) → n ≡ length xs + m → take n (xs ++ ys) ≡ xs ++ take m ys
take_past n m [] ys is = let e : n ≡ m = omega (arith, is) in ap (λ (k : ℕ). take k ys) e
take_past zero m (x ∷ xs) ys is = absurd (omega (arith, is))
take_past (suc n) m (x ∷ xs) ys is = ap (λ (l : List ℕ). x ∷ l) (take_past n m xs ys (omega (arith, is)))

has_gate : (tail : List ℕ) → IsEnd tail → 0 < length tail → (behind : List ℕ) × (tail ≡ 0 ∷ behind)
has_gate tail (over none) some = absurd (omega (arith, some, ap length none))
has_gate tail (shut behind is) some = (behind, is)

has_none : (tail : List ℕ) → IsEnd tail → length tail ≤ 0 → tail ≡ []
has_none tail (over none) few = none
has_none tail (shut behind is) few = absurd (omega (arith, few, ap length is))

module _ (head : Head) (records : List Entry) (end : ℕ) (file : List ℕ)
    (rest : EndsAt head records end file) where
  abbrev tail : List ℕ
  tail = rest.stands.0

  pub is : file ≡ stored head records ++ tail
  is = spelled head records file tail rest.stands.1

  size : length file ≡ end + length tail
  size = omega (arith, ap length is, length-append (stored head records) tail, rest.place)

  module _ (more : end < length file) where
    gate : (behind : List ℕ) × (tail ≡ 0 ∷ behind)
    gate = has_gate tail rest.stands.2 (omega (arith, more, size))

    shown : file ≡ stored head records ++ 0 ∷ gate.0
    shown = is ∙ ap (λ (l : List ℕ). stored head records ++ l) gate.1

    pub cut_done : take (end + 1) file ≡ at_rest head records
    cut_done = ap (take (end + 1)) shown
        ∙ take_past (end + 1) 1 (stored head records) (0 ∷ gate.0) (omega (arith, rest.place))

    pub cut_stands : (c : List ℕ) → Cut (end + 1) file c → StandsFor head records c
    cut_stands c cut = elim cut.no_shorter [
      | inr same ↦ subst (StandsFor head records) (sym same) rest.stands
      | inl enough ↦
          let n : ℕ = length c - (end + 1) in
          let front : c ≡ stored head records ++ 0 ∷ take n gate.0 = sym cut.front
          ∙ ap (take (length c)) shown
          ∙ take_past (length c) (suc n) (stored head records) (0 ∷ gate.0) (omega (arith, rest.place, enough)) in
          subst (StandsFor head records) (sym front)
          (closed head records (take n gate.0) rest.stands.1.begins.allowed rest.stands.1.reads.each)
    ]

    pub cut_crash : (old : List ℕ → Type 0) → Only file old → (c : List ℕ) → MayBeCut (end + 1) old c
        → StandsFor head records c
    cut_crash old only c (inl left) = subst (StandsFor head records) (sym (only c left)) rest.stands
    cut_crash old only c (inr cut) =
        cut_stands c (subst (λ f. Cut (end + 1) f c) (only cut.0 cut.1) cut.2)

  module _ (no_more : length file ≤ end) where
    bare : file ≡ stored head records
    bare = is ∙ ap (λ (l : List ℕ). stored head records ++ l)
        (has_none tail rest.stands.2 (omega (arith, no_more, size))) ∙ append-nil (stored head records)

    pub gate_done : (c : List ℕ) → Overwrites file end (0 ∷ []) c → c ≡ at_rest head records
    gate_done c holds =
        holds
        ∙ ap (λ (l : List ℕ). l ++ (0 ∷ []) ++ drop (end + 1) file) (take_all end file no_more ∙ bare)
        ∙ ap (λ (l : List ℕ). stored head records ++ (0 ∷ []) ++ l)
        (drop_all (end + 1) file (omega (arith, no_more))) ∙ append-nil (at_rest head records)

    pub gate_stands : (c : List ℕ) → Torn end (0 ∷ []) file c → StandsFor head records c
    gate_stands c torn = elim (torn.one_byte refl) [
      | inl same ↦ subst (StandsFor head records) (sym same) rest.stands
      | inr held ↦ subst (StandsFor head records) (sym (gate_done c held))
          (closed head records [] rest.stands.1.begins.allowed rest.stands.1.reads.each)
    ]

    pub gate_left : (old : List ℕ → Type 0) → Only file old → (c : List ℕ) → MayBeTorn end (0 ∷ []) old c
        → StandsFor head records c
    gate_left old only c (inl left) = subst (StandsFor head records) (sym (only c left)) rest.stands
    gate_left old only c (inr torn) =
        gate_stands c (subst (λ f. Torn end (0 ∷ []) f c) (only torn.0 torn.1) torn.2)

pub here_stands : (head : Head) (records : List Entry) (file : List ℕ) (outcomes : List ℕ → Type 0)
    → StandsFor head records file → Only file outcomes → (c : List ℕ) → outcomes c → StandsFor head records c
here_stands head records file outcomes stands only c left =
    subst (StandsFor head records) (sym (only c left)) stands

-- what was read is what the file stands for
pub ends_as : (head other : Head) (records others : List Entry) (file bytes now tail : List ℕ) (end : ℕ)
    → StandsFor head records file → bytes ≡ file → IsStore bytes other others tail
    → end ≡ length (stored other others) → now ≡ file → EndsAt head records end now
ends_as head other records others file bytes now tail end stands is store ends same =
    let at = subst (λ (f : List ℕ). IsStore f other others tail) is store in
    let one = one_reading_lem file other head others records tail stands.0 at stands.1 in
    record {
      stands = subst (StandsFor head records) (sym same) stands;
      place = ends ∙ (λ i. length (stored (one.0 i) (one.1 i)));
    }

-- what was read and is not torn is what the file stands for
pub stands_as : (head : Head) (records : List Entry) (file bytes : List ℕ) (end : ℕ) → bytes ≡ file
    → IsStore bytes head records (drop end bytes) → IsEnd (drop end bytes) → StandsFor head records file
stands_as head records file bytes end is store ends =
    subst (StandsFor head records) is (drop end bytes, store, ends)

pub is_torn : (head : Head) (records : List Entry) (file bytes : List ℕ) (end whole : ℕ) → bytes ≡ file
    → IsStore bytes head records (drop end bytes) → IsTorn (version_of head) (drop end bytes) → whole ≡ length records
    → IsTornStore file whole
is_torn head records file bytes end whole is store torn count =
    let at : IsTornStore bytes whole = record {
      head = head;
      records = records;
      tail = drop end bytes;
      store = store;
      count = count;
      torn = torn;
    } in
    subst (λ (f : List ℕ). IsTornStore f whole) is at

pub is_old : (head : Head) (records : List Entry) (file bytes tail : List ℕ) → bytes ≡ file
    → IsStore bytes head records tail → version_of head ≡ First → IsOldStore file
is_old head records file bytes tail is store version = subst IsOldStore is (head, records, tail, store, version)

pub only_as : (old new : List ℕ) (before now : List ℕ → Type 0) → Only old before → new ≡ old
    → ((c : List ℕ) → now c → before c) → Only new now
only_as old new before now only same less c left = only c (less c left) ∙ sym same

pub if_ok : {T E : Type 0} (r : Result T E) (P Q : T → Type 0) → ((x : T) → P x → Q x) → IfOk r P → IfOk r Q
if_ok (Ok x) P Q f p = f x p
if_ok (Err e) P Q f p = tt

pub on_ok : {T E : Type 0} (r : Result T E) (P Q : Type 0) → (P → Q) → OnOk r P → OnOk r Q
on_ok (Ok x) P Q f p = f p
on_ok (Err e) P Q f p = tt
