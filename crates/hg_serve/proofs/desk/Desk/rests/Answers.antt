use Rattle.std.proofs.Common.{◌≡◌, ◌+◌, List, Some, true, false, refl, sym, ap, subst, ◌∙◌}
use Rattle.hg_parts.specs.declared.item.Taken.{Taken}
use Rattle.hg_repo.specs.declared.done.Done.{Done}
use Rattle.hg_parts.specs.declared.refusal.Refusal.{Refusal}
use Rattle.hg_push.specs.declared.outcome.Outcome.{Outcome}
use Rattle.hg_push.specs.declared.outcome.Outcome.TheVariants.{Done as done_with}
use Rattle.hg_push.specs.Changed.{is_done}
use Rattle.hg_push.specs.History.{outcome}
use Rattle.hg_push.specs.Places.{RestsOn}
use Rattle.hg_push.specs.Run.{run_push}
use Rattle.hg_queue.specs.Words.{history}
use Rattle.hg_serve.specs.Histories.{ending, newest_first}
use Rattle.hg_serve.proofs.desk.Desk.rests.Goals as goal

-- a done push has a place
pub unreachable-requires : goal.unreachable-requires
unreachable-requires g c =
    let first = g.J.Naming.first in
    let h = newest_first (history c.self.inside.taker) in
    let none = c.in-None.ensures first h c.self.invariant.held in
    let is : outcome run_push first c.args.push h ≡ Some (done_with c.in-Done.field-0) =
    ap (λ v. ending first c.args.push v.history) c.self.view_is ∙ (c.requires ∙ ap Some c.in-Done.is) in
    let both : true ≡ false = sym (ap is_done is) ∙ none in
    cc

pub returns-in-Some : goal.returns-in-Some
returns-in-Some g c =
    let first = g.J.Naming.first in
    let h = newest_first (history c.self.inside.taker) in
    let inner : RestsOn run_push first h c.args.push (done_with c.in-Done.field-0) (c.in-Some.place + 1) =
    (c.in-Some.place, c.in-Some.ensures first h c.self.invariant.held, refl) in
    let told = subst (λ (o : Outcome (Done g.row.A.Denot) (Refusal g.row.A.Denot)).
    RestsOn run_push first h c.args.push o (c.in-Some.place + 1)) (sym c.in-Done.is) inner in
    subst (λ (l : List (Taken g.row.A.Denot)).
    RestsOn run_push first (newest_first l) c.args.push c.args.outcome.now (c.in-Some.place + 1))
    (ap (λ v. v.history) c.self.view_is) told
