-- How many takes close a push, and what was taken of it then.
use Rattle.std.proofs.Common.{◌≡◌, ℕ, zero, suc, ◌+◌, ◌<◌, ◌≤◌, ◌==◌, Bool, true, false, true≢false, List, []}
use Rattle.std.proofs.Common.{◌∷◌, ◌++◌, length, Option, Some, None, refl, sym, ap, ◌∙◌, subst, arith}
use Rattle.std.proofs.Common.{length-append}
use Rattle.std.specs.Prelude.{slice_get, is_none, IsSome, ◌↔◌}
use Rattle.crossbeam_queue.specs.Fifo.{Held}
use Rattle.std.proofs.lemmas.List.Elements.{filter-append}
use mathlib.Core.List.{IsPrefix}
use mathlib.Core.Logic.{dite}
use native.Mathlib.Decide.{dec_le}
use Rattle.hg_parts.specs.declared.item.Item.{Item}
use Rattle.hg_parts.specs.declared.item.Taken.{Taken}
use Rattle.hg_queue.specs.declared.view.Claim.{Claim}
use Rattle.hg_queue.specs.declared.view.View.TheVariants.{AsTaker}
use Rattle.hg_queue.specs.History.{of, items_of, has, IsOrderly}
use Rattle.hg_queue.specs.Rules.{Stands}
use Rattle.hg_queue.proofs.CallerLemmas.{Knows, knows, taken_by}
use Rattle.hg_push.specs.History.{History, is_closed, outcome}
use Rattle.hg_push.specs.declared.outcome.Outcome.TheVariants.{Aborted}
use Rattle.hg_push.specs.declared.outcome.Reason.TheVariants.{NoMemory}
use Rattle.hg_push.specs.Run.{RepositoryOf, run_push}
use Rattle.hg_serve.specs.Histories.{newest_first, ending}
use Rattle.hg_serve.specs.Desks.{DeskView, IsKnown}
use Rattle.hg_serve.proofs.Closings.{open_no_mark, closed_mark, all_taken, of_prefix, items_append, HasMark}

pub none_of : {X : Type 0} (o : Option X) → is_none o ≡ true → o ≡ None
none_of None e = refl
none_of (Some x) e = absurd (true≢false (sym e))

pub some_of : {X : Type 0} (o : Option X) → is_none o ≡ false → IsSome o
some_of None e = absurd (true≢false e)
some_of (Some x) e = refl

-- the law `closed_pushes_have_ended`
abbrev pub ClosedAreEnded : Type 0 → Type 0
ClosedAreEnded A = (first : RepositoryOf A) (p : ℕ) (h : History A)
    → (is_closed p h ≡ true) ↔ IsSome (outcome run_push first p h)

open_is : {A : Type 0} → ClosedAreEnded A → (first : RepositoryOf A) (p : ℕ) (h : List (Taken A))
    → ending first p h ≡ None → is_closed p (newest_first h) ≡ false
open_is {A} law first p h none = decide (is_closed p (newest_first h)) refl
  where
    decide : (c : Bool) → is_closed p (newest_first h) ≡ c → is_closed p (newest_first h) ≡ false
    decide false is = is
    decide true is = let bad : IsSome (ending first p h) = (law first p (newest_first h)).0 is in
        let worse = subst (λ o. IsSome o) none bad in absurd (true≢false (sym worse))

get_inside : {X : Type 0} (xs ys : List X) (k : ℕ) → k < length xs → slice_get (xs ++ ys) k ≡ slice_get xs k
get_inside [] ys k h = absurd (omega arith)
get_inside (x ∷ xs) ys zero h = refl
get_inside (x ∷ xs) ys (suc k) h = get_inside xs ys k (omega arith)

get_less : {X : Type 0} (xs : List X) (k : ℕ) (x : X) → slice_get xs k ≡ Some x → k < length xs
get_less [] k x e = absurd cc
get_less (y ∷ xs) zero x e = omega arith
get_less (y ∷ xs) (suc k) x e = let r = get_less xs k x e in omega arith

length_items : {A : Type 0} (h : List (Taken A)) → length (items_of h) ≡ length h
length_items [] = refl
length_items (e ∷ h) = ap suc (length_items h)

append_front : {X : Type 0} (xs ys : List X) → xs ++ ys ≡ [] → xs ≡ []
append_front [] ys e = refl
append_front (x ∷ xs) ys e = absurd cc

module _ {A : Type 0} where
  long : (capacity : ℕ) (d : DeskView A) → IsKnown capacity d → length (taken_by d.taker) ≡ length d.history
  long capacity d known = sym (ap (λ (l : List (Item A)). length l) known.taken) ∙ length_items d.history

  facts : (capacity : ℕ) (d : DeskView A) (known : IsKnown capacity d) → Knows d.taker known.items
  facts capacity d known = knows (AsTaker d.taker) d.taker known.items refl known.stands

  -- while the push is open, its mark was not taken
  pub waits : ClosedAreEnded A
      → (first : RepositoryOf A) (capacity : ℕ) (d : DeskView A) (push : ℕ) (c : Claim A)
      → d.taker.awaited ≡ Some c → c.push ≡ push → IsKnown capacity d → ending first push d.history ≡ None
      → length d.history ≤ c.place
  waits law first capacity d push c awaited mine known none =
      dite (dec_le (length d.history) c.place) (λ le. le)
      (λ (isnt : length d.history ≤ c.place → ⊥). absurd (early isnt))
    where
      early : (length d.history ≤ c.place → ⊥) → ⊥
      early isnt =
          let m = (facts capacity d known).mark c awaited in
          let l = long capacity d known in
          let at : slice_get (items_of d.history) c.place ≡ Some m.0 =
          ap (λ (l : List (Item A)). slice_get l c.place) known.taken
          ∙ (sym (get_inside (taken_by d.taker) known.items c.place (omega arith)) ∙ m.1) in
          true≢false (sym (open_no_mark push d.history c.place m.0
          (open_is law first push d.history none) at (m.2 ∙ mine)) ∙ m.3)

  -- while the push is open, the queue is not empty
  pub not_empty : ClosedAreEnded A
      → (first : RepositoryOf A) (capacity : ℕ) (d : DeskView A) (push : ℕ) (c : Claim A)
      → d.taker.awaited ≡ Some c → c.push ≡ push → IsKnown capacity d → ending first push d.history ≡ None
      → Held 0 (Stands (AsTaker d.taker)) → ⊥
  not_empty law first capacity d push c awaited mine known none h =
      let k = knows (AsTaker d.taker) d.taker h.0 refl h.2 in
      let m = k.mark c awaited in
      let there : c.place < length (taken_by d.taker ++ h.0) = get_less (taken_by d.taker
      ++ h.0) c.place m.0 m.1 in
      let w = waits law first capacity d push c awaited mine known none in
      let l = long capacity d known in
      let empty : length h.0 ≡ 0 = h.1 in
      omega (arith, length-append (taken_by d.taker) h.0)

  -- the mark is near
  pub near : (capacity : ℕ) (d : DeskView A) (c : Claim A) → d.taker.awaited ≡ Some c → IsKnown capacity d
      → c.place < length d.history + capacity
  near capacity d c awaited known =
      let n : c.place < length (taken_by d.taker) + d.taker.capacity =
      (facts capacity d known).near c awaited in
      let l = long capacity d known in
      let size : d.taker.capacity ≡ capacity = known.room in
      omega arith

  -- what was taken of a push is a beginning of what it put
  pub put_prefix : (capacity : ℕ) (d : DeskView A) (push : ℕ) (c : Claim A) → d.taker.awaited ≡ Some c
      → c.push ≡ push → IsKnown capacity d → IsPrefix (of push (items_of d.history)) c.put
  put_prefix capacity d push c awaited mine known =
      let all : of push (taken_by d.taker ++ known.items) ≡ c.put = sym
      ((facts capacity d known).same c awaited ∙ ap (λ p. of p (taken_by d.taker ++ known.items)) mine) in
      subst (λ (y : List (Item A) × List (Item A)). IsPrefix (of push y.0) y.1)
      (λ i. (sym known.taken i, all i)) (of_prefix push (taken_by d.taker) known.items)

  -- what it put is in order
  pub put_orderly : (capacity : ℕ) (d : DeskView A) (push : ℕ) (c : Claim A) → d.taker.awaited ≡ Some c
      → c.push ≡ push → IsKnown capacity d → IsOrderly 0 c.put
  put_orderly capacity d push c awaited mine known =
      let k = facts capacity d known in
      let all : of push (taken_by d.taker ++ known.items) ≡ c.put = sym (k.same c awaited
      ∙ ap (λ p. of p (taken_by d.taker ++ known.items)) mine) in
      subst (IsOrderly 0) all (k.orderly push)

  -- where it was closed by no refusal, all that it put was taken
  pub put_all : ClosedAreEnded A
      → (first : RepositoryOf A) (capacity : ℕ) (d : DeskView A) (push : ℕ) (c : Claim A)
      → d.taker.awaited ≡ Some c → c.push ≡ push → IsKnown capacity d
      → is_none (ending first push d.history) ≡ false
      → (ending first push d.history ≡ Some (Aborted NoMemory) → ⊥) → of push (items_of d.history) ≡ c.put
  put_all law first capacity d push c awaited mine known closed isnt =
      let k = facts capacity d known in
      let all : of push (taken_by d.taker ++ known.items) ≡ c.put = sym (k.same c awaited
      ∙ ap (λ p. of p (taken_by d.taker ++ known.items)) mine) in
      let shut : is_closed push (newest_first d.history) ≡ true = (law first push (newest_first d.history)).1
      (some_of (ending first push d.history) closed) in
      let m : HasMark push (taken_by d.taker) = subst (λ (l : List (Item A)). HasMark push l) known.taken
      (closed_mark first push d.history shut isnt) in
      ap (λ (l : List (Item A)). of push l) known.taken
      ∙ (all_taken push (taken_by d.taker) known.items (k.orderly push) m ∙ all)

  -- a push that is not noted has no item in a beginning of the history
  pub fresh_of : (capacity : ℕ) (d : DeskView A) (p : ℕ) (s : List (Taken A)) → IsKnown capacity d
      → has p d.taker.noted ≡ false → IsPrefix s d.history → of p (items_of s) ≡ []
  fresh_of capacity d p s known none pre =
      let k = facts capacity d known in
      let split : of p (taken_by d.taker ++ known.items) ≡ of p (taken_by d.taker)
      ++ of p known.items = filter-append (λ (y : Item A). y.push == p) (taken_by d.taker) known.items in
      let taken : of p (items_of d.history) ≡ [] = ap (λ (l : List (Item A)). of p l) known.taken
      ∙ append_front (of p (taken_by d.taker)) (of p known.items) (sym split ∙ k.fresh p none) in
      let rest : of p (items_of d.history) ≡ of p (items_of s)
      ++ of p (items_of pre.0) = ap (λ (h : List (Taken A)). of p (items_of h)) (sym pre.1)
      ∙ (ap (λ (l : List (Item A)). of p l) (items_append s pre.0)
      ∙ filter-append (λ (y : Item A). y.push == p) (items_of s) (items_of pre.0)) in
      append_front (of p (items_of s)) (of p (items_of pre.0)) (sym rest ∙ taken)
