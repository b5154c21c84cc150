use Rattle.std.proofs.Common.{◌≡◌, [], ◌∷◌, ◌++◌, List, length, refl, ap, sym, subst, ◌∙◌, append_assoc}
use Rattle.std.proofs.Common.{arith}
use Rattle.std.specs.Prelude.{All}
use Rattle.std.proofs.lemmas.List.{append-nil}
use Rattle.std.proofs.lemmas.List.Elements.{All-cons}
use mathlib.Core.List.{IsPrefix}
use Rattle.hg_parts.specs.declared.item.Taken.{Taken}
use Rattle.hg_queue.specs.Words.{seen, history}
use Rattle.hg_queue.proofs.CallerLemmas.{prefix_longer}
use Rattle.hg_push.specs.History.{IsHistory}
use Rattle.hg_serve.specs.Histories.{newest_first}
use Rattle.hg_serve.proofs.Orders.{taker_named, empty_front}
use Rattle.hg_serve.proofs.desk.Desk.close.Goals as goal

pub spending-init : goal.spending-init
spending-init g c = record {
  role = c.self.invariant.taker;
  kept = refl;
  done = ([], sym (append-nil c.args.clients.items), λ k d less. absurd (omega (arith, less)));
}

pub spending-preserved : goal.spending-preserved
spending-preserved g c =
    let i = c.spending.invariant in
    let e = c.in-Some.ensures.items in
    let h = c.hear.ensures in
    let v = c.in-Some.client in
    let rest = c.pop.new.self.items in
    let kept' = h.taker.1 ∙ i.kept in
    let P : List (Taken g.row.A.Denot) → Type 0 = λ l. IsPrefix l (history c.self.inside.taker) in
    let met : IsPrefix (seen c.client.inside.visitor) (history c.hear.new.taker) =
    prefix_longer _ _ _ h.earlier in
    let early : IsPrefix (seen c.client.inside.visitor) (history c.self.inside.taker) = subst
    (λ (y : List (Taken g.row.A.Denot)). IsPrefix (seen c.client.inside.visitor) y) kept' met in
    record {
      role = taker_named _ _ _ _ _ c.requires.queue.0 c.requires.queue.1 c.dismiss.ensures.0;
      kept = c.dismiss.ensures.2 ∙ kept';
      done = (
        v ∷ i.done.0,
        i.done.1 ∙ (ap (λ l. l ++ i.done.0) e ∙ append_assoc rest (v ∷ []) i.done.0),
        All-cons P v i.done.0 (subst P c.client.view_is early) i.done.2,
      );
    }

pub returns-clause-earlier : goal.returns-clause-earlier
returns-clause-earlier g c =
    let i = c.spending.invariant in
    let F : List (Taken g.row.A.Denot) → List (List (Taken g.row.A.Denot))
    → Type 0 = λ h vs. All (λ v. IsPrefix v h) vs in
    let ok = c.spending.clients.ok in
    let len = c.in_default.ensures.cases.0 in
    let none : length c.spending.clients.items ≡ 0 = omega arith in
    let all : c.args.clients.items ≡ i.done.0 = i.done.1
    ∙ empty_front c.spending.clients.items i.done.0 none in
    subst (λ (y : List (Taken g.row.A.Denot) × List (List (Taken g.row.A.Denot))). F y.0 y.1)
    (λ j. (sym i.kept j, sym all j)) i.done.2

pub returns-clause-legal : goal.returns-clause-legal
returns-clause-legal g c =
    subst (λ (h : List (Taken g.row.A.Denot)). IsHistory (newest_first h)) (sym c.spending.invariant.kept)
    c.self.invariant.held.legal
