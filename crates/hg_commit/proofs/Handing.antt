-- Records on their way to the device.
use Rattle.std.proofs.Common.{ℕ, zero, suc, Bool, true, false, if◌then◌else◌, take, drop, arith, eqb-true, length, true≢false}
use Rattle.std.proofs.Common.{◌+◌, ◌==◌}
use Rattle.std.proofs.Common.{◌≡◌, List, [], ◌∷◌, ◌++◌, refl, sym, ap, ◌∙◌, append_assoc, append-nil}
use Rattle.std.specs.Prelude.{insert, IfNone, IfSome, Option, None, Some, option_to_list}
use Rattle.hg_store.specs.Entries.{Entry}
use Rattle.hg_commit.specs.declared.waiting.Record.{Record}
use Rattle.hg_commit.specs.Handing.{MovesTo, backwards, entries_of}
use Rattle.hg_commit.specs.Locks.{IsHandedIn}

backwards_end : {X : Type 0} (xs : List X) (x : X) → backwards (xs ++ x ∷ []) ≡ x ∷ backwards xs
backwards_end [] x = refl
backwards_end (y ∷ xs) x = ap (λ l. l ++ y ∷ []) (backwards_end xs x)

entries_end : {A : Type 0} (xs : List (Record A)) (x : Record A)
    → entries_of (xs ++ x ∷ []) ≡ entries_of xs ++ x.entry ∷ []
entries_end [] x = refl
entries_end (y ∷ xs) x = ap (λ (l : List Entry). y.entry ∷ l) (entries_end xs x)

-- none went
pub moves_none : {A : Type 0} (waiting : List (Record A)) (batch : List Entry) → MovesTo waiting batch waiting batch
moves_none waiting batch = record { gone = []; was = sym (append-nil waiting); is = sym (append-nil batch) }

-- one more went
pub moves_on : {A : Type 0} (waiting left less : List (Record A)) (batch now : List Entry) (x : Record A)
    → MovesTo waiting batch left now → left ≡ less ++ x ∷ []
    → MovesTo waiting batch less (now ++ x.entry ∷ [])
moves_on {A} waiting left less batch now x m is = record {
  gone = m.gone ++ x ∷ [];
  was = m.was ∙ (ap (λ (l : List (Record A)). l ++ backwards m.gone) is
      ∙ (append_assoc less (x ∷ []) (backwards m.gone)
      ∙ ap (λ (l : List (Record A)). less ++ l) (sym (backwards_end m.gone x))));
  is = ap (λ (l : List Entry). l ++ x.entry ∷ []) m.is
      ∙ (append_assoc batch (entries_of m.gone) (x.entry ∷ [])
      ∙ ap (λ (l : List Entry). batch ++ l) (sym (entries_end m.gone x)));
}

-- what went from the end
pub was_last : {X : Type 0} (before left : List X) (r : Option X) → before ≡ left ++ option_to_list r
    → IfSome r (λ x. before ≡ left ++ x ∷ [])
was_last before left None is = tt
was_last before left (Some x) is = is

pub was_none : {X : Type 0} (before left : List X) (r : Option X) → before ≡ left ++ option_to_list r
    → IfNone r (left ≡ before)
was_none before left None is = sym (is ∙ append-nil left)
was_none before left (Some x) is = tt

halves : {X : Type 0} (n : ℕ) (xs : List X) → xs ≡ take n xs ++ drop n xs
halves zero xs = refl
halves (suc n) [] = refl
halves (suc n) (x ∷ xs) = ap (λ l. x ∷ l) (halves n xs)

-- what came into its place
pub one_more_at : {A : Type 0} (before after : List (Record A)) (at : ℕ) (x : Record A) (made : Bool)
    → after ≡ (if made then insert before at x else before) → made ≡ true → IsHandedIn before x after
one_more_at before after at x true is whole = record {
  above = take at before;
  below = drop at before;
  waited = halves at before;
  waits = is;
}
one_more_at before after at x false is never = cc

pub off : true ≡ false → ⊥
off e = true≢false e

pub no_items : {X : Type 0} (xs : List X) → length xs ≡ 0 → xs ≡ []
no_items [] none = refl
no_items (x ∷ xs) none = absurd (omega (arith, none))

-- nothing is in a batch of no records
pub none_more : (count : ℕ) (batch held : List Entry) → batch ≡ held → (n : ℕ) → n ≡ length held → (n == 0) ≡ true
    → (count ≡ count + length batch) × (batch ≡ [])
none_more count batch held same n long empty =
    let none : n ≡ 0 = eqb-true n 0 empty in
    let is : batch ≡ [] = same ∙ no_items held (omega (arith, none, long)) in
    (omega (arith, ap length is), is)
