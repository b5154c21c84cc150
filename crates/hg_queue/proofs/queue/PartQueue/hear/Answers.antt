use Rattle.std.proofs.Common.{◌++◌, ap, ◌∙◌, subst, refl}
use mathlib.Core.List.{IsPrefix}
use Rattle.hg_queue.specs.declared.view.TakerView.{TakerView}
use Rattle.hg_queue.specs.declared.view.View.TheVariants.{AsTaker}
use Rattle.hg_queue.specs.Seats.{settle}
use Rattle.hg_queue.specs.code.Steps.{heard}
use Rattle.hg_queue.specs.Words.{taker_of, taker_view}
use Rattle.hg_queue.proofs.Facts.{knows}
use Rattle.hg_queue.proofs.Moves.{notes_as, hears_as}
use Rattle.hg_queue.proofs.queue.PartQueue.hear.Goals as goal

pub another-note-requires-clause-rule : goal.another-note-requires-clause-rule
another-note-requires-clause-rule g c = notes_as _ _ _ c.requires.1.role

pub absorb-requires-clause-rule : goal.absorb-requires-clause-rule
absorb-requires-clause-rule g c =
    hears_as _ _ _ _ _ _ c.requires.0.role (c.another-note.ensures.rule.1 ∙ c.requires.1.role)

pub returns-clause-taker : goal.returns-clause-taker
returns-clause-taker g c =
    let known = c.absorb.ensures.rule
    ∙ (λ i. heard (c.requires.0.role i) ((c.another-note.ensures.rule.1 ∙ c.requires.1.role) i)) in
    let l = c.learn.ensures.taker in
    (l.0, l.2 ∙ ap (λ v. (taker_of v).settled ++ settle (taker_of v).last c.args.taker.now.refused) known)

pub returns-clause-view : goal.returns-clause-view
returns-clause-view g c =
    let known = c.absorb.ensures.rule
    ∙ (λ i. heard (c.requires.0.role i) ((c.another-note.ensures.rule.1 ∙ c.requires.1.role) i)) in
    c.learn.ensures.taker.1 ∙ ap taker_of known

pub returns-clause-earlier : goal.returns-clause-earlier
returns-clause-earlier g c =
    let known = c.absorb.ensures.rule
    ∙ (λ i. heard (c.requires.0.role i) ((c.another-note.ensures.rule.1 ∙ c.requires.1.role) i)) in
    let l = c.learn.ensures in
    let t = taker_view c.learn.new.taker in
    let k = knows (AsTaker t) t l.fact.0 refl l.fact.1 in
    subst (λ h. IsPrefix h t.settled) (ap (λ (u : TakerView _). u.heard) (l.taker.1 ∙ ap taker_of known))
    k.heard
