-- What follows for a Taker from the rule.
use Rattle.std.proofs.Common.{◌≡◌, ℕ, ◌+◌, ◌<◌, Bool, true, false, List, [], ◌∷◌, ◌++◌, length, Some, None}
use Rattle.std.proofs.Common.{Option, refl, sym, ap, ◌∙◌, subst, arith, append_assoc}
use Rattle.std.specs.Prelude.{slice_get, option_to_list, MatchOption, IfSome}
use mathlib.Core.List.{IsPrefix}
use Rattle.hg_parts.specs.declared.item.Item.{Item}
use Rattle.hg_queue.specs.declared.view.Claim.{Claim}
use Rattle.hg_queue.specs.declared.view.TakerView.{TakerView}
use Rattle.hg_queue.specs.declared.view.View.{View}
use Rattle.hg_queue.specs.declared.view.View.TheVariants.{AsTaker}
use Rattle.hg_queue.specs.History.{is_part, of, items_of, has, IsOrderly, IsDistinct}
use Rattle.hg_queue.specs.Rules.{World, whole, log_of, Stands, IsSound, FitsTaker}
use Rattle.hg_queue.specs.code.Steps.{took, TakesOne}
use Rattle.hg_queue.specs.Words.{taker_of}
use Rattle.hg_queue.proofs.Lists.{of_inside}

module _ {A : Type 0} where
  -- the items that a Taker took
  abbrev pub taken_by : TakerView A → List (Item A)
  taken_by t = items_of t.settled ++ option_to_list t.last

  -- what the rule says of a Taker's view while the queue holds these items
  pub record Knows (t : TakerView A) (items : List (Item A)) : Type 0 where
    pub heard : IsPrefix t.heard t.settled
    pub fresh : (p : ℕ) → has p t.noted ≡ false → of p (taken_by t ++ items) ≡ []
    pub orderly : (p : ℕ) → IsOrderly 0 (of p (taken_by t ++ items))
    pub joined : (p : ℕ) → has p t.joined ≡ true → has p t.noted ≡ true
    pub once : IsDistinct t.joined
    pub same : (c : Claim A) → t.awaited ≡ Some c → c.put ≡ of c.push (taken_by t ++ items)
    pub mark : (c : Claim A) → t.awaited ≡ Some c → (x : Item A)
        × (slice_get (taken_by t ++ items) c.place ≡ Some x) × (x.push ≡ c.push) × (is_part x.what ≡ false)
    pub near : (c : Claim A) → t.awaited ≡ Some c → c.place < length (taken_by t) + t.capacity

  knows_in : (t : TakerView A) (items : List (Item A)) (w : World A) (port n : ℕ) → IsSound w items n
      → FitsTaker w (whole w items) port t → Knows t items
  knows_in t items w port n so k =
      let all : taken_by t ++ items ≡ whole w items = λ i. (items_of (k.settled i)
      ++ option_to_list (k.last i)) ++ items in
      record {
        heard = subst (IsPrefix t.heard) (sym k.settled) k.heard;
        fresh = λ p none. ap (of p) all ∙ so.unnoted p (ap (has p) (sym k.noted) ∙ none);
        orderly = λ p. subst (λ l. IsOrderly 0 (of p l)) (sym all) (so.orderly p);
        joined = λ p is. ap (has p) k.noted ∙ so.joined p (ap (has p) (sym k.joined) ∙ is);
        once = subst IsDistinct (sym k.joined) so.once;
        same = λ c is. (k.awaited c is).same ∙ ap (of c.push) (sym all);
        mark = λ c is. let a = k.awaited c is in
            (a.mark, ap (λ l. slice_get l c.place) all ∙ a.at, a.mine, a.marks);
        near = λ c is. let a = (k.awaited c is).near in let e = ap length all in
            let s : length (taken_by t) ≡ length (log_of w) =
            (λ i. length (items_of (k.settled i) ++ option_to_list (k.last i))) in let r = k.capacity in
            omega arith;
      }

  pub knows : (v : View A) (t : TakerView A) (items : List (Item A)) → v ≡ AsTaker t → Stands v items
      → Knows t items
  knows v t items is h = let h' : Stands (AsTaker t) items = subst (λ (u : View A). Stands u items) is h in
      knows_in t items (h'.2).0 h'.1 (length h'.0) (h'.2).1 ((h'.2).2 h'.1 (AsTaker t) h'.3).kind

  -- an item that was taken last is of a noted push
  pub noted_last : (t : TakerView A) (items : List (Item A)) (x : Item A) → t.last ≡ Some x → Knows t items
      → has x.push t.noted ≡ true
  noted_last t items x last k = decide (has x.push t.noted) refl
    where
      all : taken_by t ++ items ≡ items_of t.settled ++ x ∷ items
      all = ap (λ l. (items_of t.settled ++ option_to_list l) ++ items) last
          ∙ append_assoc (items_of t.settled) (x ∷ []) items

      decide : (b : Bool) → has x.push t.noted ≡ b → has x.push t.noted ≡ true
      decide true is = is
      decide false is = absurd
          (of_inside (items_of t.settled) items x (ap (of x.push) (sym all) ∙ k.fresh x.push is))

  -- the same view, by an equation
  pub stands_at : (v w : View A) (items : List (Item A)) → v ≡ w → Stands v items → Stands w items
  stands_at v w items is h = subst (λ (u : View A). Stands u items) is h

  -- what a take tells: the view after it is a Taker's, of which the item was taken last
  took_taker : (refused : Bool) (v w : View A) (t : TakerView A) (x : Item A) → v ≡ AsTaker t
      → w ≡ took refused v x → w ≡ AsTaker (taker_of w)
  took_taker refused v w t x is now = let e : w ≡ took refused (AsTaker t) x = now
      ∙ ap (λ u. took refused u x) is in e ∙ ap (λ u. AsTaker (taker_of u)) (sym e)

  took_noted : (refused : Bool) (v w : View A) (t : TakerView A) (x : Item A) → v ≡ AsTaker t
      → TakesOne refused v x w → has x.push (taker_of w).noted ≡ true
  took_noted refused v w t x is h =
      let e : w ≡ took refused (AsTaker t) x = h.0 ∙ ap (λ u. took refused u x) is in
      noted_last (taker_of w) h.1.0 x (ap (λ u. (taker_of u).last) e)
      (knows w (taker_of w) h.1.0 (took_taker refused v w t x is h.0) h.1.1)

  -- of a take that may have found nothing
  pub tells_noted : (E : Type 0) (refused : Bool) (v w : View A) (t : TakerView A) → v ≡ AsTaker t
      → (r : Option (Item A)) → MatchOption r E (λ x. TakesOne refused v x w)
      → IfSome r (λ x. has x.push (taker_of w).noted ≡ true)
  tells_noted E refused v w t is None h = tt
  tells_noted E refused v w t is (Some x) h = took_noted refused v w t x is h

  pub tells_fact : (E : Type 0) (refused : Bool) (v w : View A) (t : TakerView A) → v ≡ AsTaker t
      → (r : Option (Item A)) → MatchOption r E (λ x. TakesOne refused v x w)
      → IfSome r (λ _. (items : List (Item A)) × Stands (AsTaker (taker_of w)) items)
  tells_fact E refused v w t is None h = tt
  tells_fact E refused v w t is (Some x) h =
      (h.1.0, stands_at w (AsTaker (taker_of w)) h.1.0 (took_taker refused v w t x is h.0) h.1.1)
