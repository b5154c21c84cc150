-- What a done push had, by the law `done_had_all_of_its_list` of hg_push.
use Rattle.std.proofs.Common.{◌≡◌, ℕ, ◌+◌, List, [], ◌∷◌, length, Some, sym, ap, ◌∙◌}
use Rattle.std.proofs.Common.{subst}
use Rattle.std.specs.Prelude.{MatchBool}
use Rattle.std.specs.List.{range_with_len}
use mathlib.Core.List.{IsPrefix}
use Rattle.hg_parts.specs.declared.item.Item.{Item}
use Rattle.hg_parts.specs.declared.item.What.{What}
use Rattle.hg_parts.specs.declared.item.What.TheVariants.{Part as a_part, End, Cut}
use Rattle.hg_parts.specs.declared.item.Taken.{Taken}
use Rattle.hg_repo.specs.declared.done.Done.{Done}
use Rattle.hg_parts.specs.declared.refusal.Refusal.{Refusal}
use Rattle.hg_queue.specs.History.{is_part, of, items_of, IsOrderly}
use Rattle.hg_push.specs.declared.outcome.Outcome.{Outcome}
use Rattle.hg_push.specs.declared.outcome.Outcome.TheVariants.{Done as done_with}
use Rattle.hg_push.specs.Complete.{IsOrderly as IsOrderlyPut, IsComplete}
use Rattle.hg_push.specs.History.{History, is_mark, parts, outcome}
use Rattle.hg_push.specs.Run.{RepositoryOf, run_push}
use Rattle.hg_push.specs.World.{items_in, items_of as items_put, all_parts}
use Rattle.hg_push.proofs.CallerLemmas.{items_in-reverse}
use Rattle.hg_serve.specs.Histories.{newest_first, ending}

-- the law's two clauses
abbrev pub HadAll : Type 0 → Type 0
HadAll A = (first : RepositoryOf A) (p : ℕ) (h : History A) (put : List (Item A)) (done : Done A)
    → IsOrderlyPut 0 put → IsPrefix (items_put p (items_in h)) put
    → outcome run_push first p h ≡ Some (done_with done)
    → (items_put p (items_in h) ≡ put) × IsComplete put (parts p h)

abbrev pub HandledAll : Type 0 → Type 0
HandledAll A = (first : RepositoryOf A) (p : ℕ) (h : History A) (put : List (Item A)) (done : Done A)
    → IsOrderlyPut 0 put → IsPrefix (items_put p (items_in h)) put
    → outcome run_push first p h ≡ Some (done_with done)
    → done.handled ≡ range_with_len 0 (length (all_parts put))

-- the order of one push's items, as the queue says it and as the book does
order_of : {A : Type 0} (what : What A) (more none : Type 0) (then : Type 0) → (more → then)
    → MatchBool (is_part what) more none → MatchBool (is_mark what) none then
order_of (a_part part) more none then go h = go h
order_of End more none then go h = h
order_of (Cut reason) more none then go h = h

pub orderly_put : {A : Type 0} (k : ℕ) (items : List (Item A)) → IsOrderly k items → IsOrderlyPut k items
orderly_put k [] so = tt
orderly_put k (x ∷ xs) so = (
  so.0,
  order_of x.what (IsOrderly (k + 1) xs) (xs ≡ []) (IsOrderlyPut (k + 1) xs)
      (λ rest. orderly_put (k + 1) xs rest) so.1,
)

module _ {A : Type 0} where
  front_put : (p : ℕ) (after : List (Taken A)) (put : List (Item A)) → IsPrefix (of p (items_of after)) put
      → IsPrefix (items_put p (items_in (newest_first after))) put
  front_put p after put front =
      subst (λ (l : List (Item A)). IsPrefix (of p l) put) (sym (items_in-reverse after)) front

  is_done : (first : RepositoryOf A) (p : ℕ) (after : List (Taken A)) (how : Outcome (Done A) (Refusal A))
      (done : Done A) → ending first p after ≡ Some how → how ≡ done_with done
      → ending first p after ≡ Some (done_with done)
  is_done first p after how done ended is = ended ∙ ap (λ (h : Outcome (Done A) (Refusal A)). Some h) is

  pub ran_all : HadAll A → (first : RepositoryOf A) (p : ℕ) (after : List (Taken A)) (put : List (Item A))
      (how : Outcome (Done A) (Refusal A)) → IsOrderly 0 put → IsPrefix (of p (items_of after)) put
      → ending first p after ≡ Some how
      → (done : Done A) → how ≡ done_with done → IsComplete put (parts p (newest_first after))
  ran_all law first p after put how so front ended done is =
      (law first p (newest_first after) put done (orderly_put 0 put so) (front_put p after put front)
      (is_done first p after how done ended is)).1

  pub handled_all : HandledAll A
      → (first : RepositoryOf A) (p : ℕ) (after : List (Taken A)) (put : List (Item A))
      (how : Outcome (Done A) (Refusal A)) → IsOrderly 0 put → IsPrefix (of p (items_of after)) put
      → ending first p after ≡ Some how
      → (done : Done A) → how ≡ done_with done → done.handled ≡ range_with_len 0 (length (all_parts put))
  handled_all law first p after put how so front ended done is =
      law first p (newest_first after) put done (orderly_put 0 put so) (front_put p after put front)
      (is_done first p after how done ended is)
