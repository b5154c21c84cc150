use Rattle.std.proofs.Common.{◌≡◌, ◌∙◌, List, IfErr, IfOk, subst}
use Rattle.hg_store.specs.Again.{AreOpenedAfter}
use Rattle.hg_store.specs.Calls.{Event}
use Rattle.hg_store.specs.Head.{head_for}
use Rattle.hg_store.specs.Openings.{IsFound, IsUnopened}
use Rattle.hg_store.specs.Tails.{LosesNothing}
use Rattle.hg_store.proofs.front.open_file.Goals as goal

pub returns-in-Ok-pass_records-clause-settled : goal.returns-in-Ok-pass_records-clause-settled
returns-in-Ok-pass_records-clause-settled g c =
    c.finish.ensures.settled c.args.setup.now
    (c.in-Ok-pass_records.ensures.read c.args.setup.now c.in-Ok.ensures.read)

pub returns-in-Ok-pass_records-clause-found : goal.returns-in-Ok-pass_records-clause-found
returns-in-Ok-pass_records-clause-found g c =
    subst (λ (before : List Event). IfOk c.finish.result (λ opened. IsFound (head_for c.args.setup.now opened.identity)
    opened.records.entries before (g.C.Calls.history opened.log.device.calls)))
    (c.pass_records.ensures.same ∙ c.in-Ok.ensures.same)
    (c.finish.ensures.found c.args.setup.now
    (c.in-Ok-pass_records.ensures.read c.args.setup.now c.in-Ok.ensures.read))

pub returns-in-Ok-pass_records-clause-err : goal.returns-in-Ok-pass_records-clause-err
returns-in-Ok-pass_records-clause-err g c =
    subst (λ (before : List Event). IfErr c.finish.result (λ left. IsUnopened left.fault c.args.setup.now
    (g.C.Calls.drawn left.calls) before (g.C.Calls.history left.calls)))
    (c.pass_records.ensures.same ∙ c.in-Ok.ensures.same)
    (c.finish.ensures.err c.args.setup.now
    (c.in-Ok-pass_records.ensures.read c.args.setup.now c.in-Ok.ensures.read))

pub returns-in-Ok-pass_records-clause-again : goal.returns-in-Ok-pass_records-clause-again
returns-in-Ok-pass_records-clause-again g c =
    subst (λ (before : List Event). IfOk c.finish.result (λ opened. AreOpenedAfter (head_for c.args.setup.now opened.identity)
    opened.records.entries before (g.C.Calls.history opened.log.device.calls)))
    (c.pass_records.ensures.same ∙ c.in-Ok.ensures.same)
    (c.finish.ensures.again c.args.setup.now
    (c.in-Ok-pass_records.ensures.read c.args.setup.now c.in-Ok.ensures.read))

pub returns-in-Ok-pass_records-clause-tail : goal.returns-in-Ok-pass_records-clause-tail
returns-in-Ok-pass_records-clause-tail g c =
    subst (λ (before : List Event). IfOk c.finish.result (λ opened. LosesNothing before
    (g.C.Calls.history opened.log.device.calls) (g.K.TailKeeper.done c.finish.new.keeper)))
    (c.pass_records.ensures.same ∙ c.in-Ok.ensures.same)
    c.finish.ensures.tail

pub returns-in-Ok-pass_records-clause-tail_err : goal.returns-in-Ok-pass_records-clause-tail_err
returns-in-Ok-pass_records-clause-tail_err g c =
    subst (λ (before : List Event). IfErr c.finish.result (λ left. LosesNothing before (g.C.Calls.history left.calls)
    (g.K.TailKeeper.done c.finish.new.keeper)))
    (c.pass_records.ensures.same ∙ c.in-Ok.ensures.same)
    c.finish.ensures.tail_err
