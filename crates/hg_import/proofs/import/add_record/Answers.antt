use Rattle.std.proofs.Common.{List, [], ◌∷◌, ◌++◌, ap, ◌∙◌}
use Rattle.hg_store.specs.Entries.{Entry}
use Rattle.hg_import.proofs.Adding.{adds, gives_up, may_add}
use Rattle.hg_import.proofs.import.add_record.Goals as goal

pub returns-clause-ok : goal.returns-clause-ok
returns-clause-ok g c = λ head records settled.
    adds g.D.Device.seen g.D.Device.may_leave g.D.Device.moment g.D.Device.left_since head records
    c.as_slice.result.now c.args.entry c.args.log.now c.append.new.self
    (c.as_slice.ensures.value ∙ c.push_reserved.ensures.items
    ∙ ap (λ (l : List Entry). l ++ c.args.entry ∷ []) c.requires.empty)
    (c.append.ensures.any_moment head records settled) c.append.result
    (c.append.ensures.acknowledged head records settled)

pub returns-clause-any_moment : goal.returns-clause-any_moment
returns-clause-any_moment g c = λ head records settled.
    may_add g.D.Device.seen g.D.Device.may_leave g.D.Device.moment g.D.Device.left_since head records
    c.as_slice.result.now c.args.entry c.args.log.now c.append.new.self
    (c.as_slice.ensures.value ∙ c.push_reserved.ensures.items
    ∙ ap (λ (l : List Entry). l ++ c.args.entry ∷ []) c.requires.empty)
    (c.append.ensures.any_moment head records settled)

pub returns-clause-failed : goal.returns-clause-failed
returns-clause-failed g c =
    gives_up g.D.Device.faults c.as_slice.result.now c.args.entry c.args.log.now c.append.new.self
    (c.as_slice.ensures.value ∙ c.push_reserved.ensures.items
    ∙ ap (λ (l : List Entry). l ++ c.args.entry ∷ []) c.requires.empty)
    c.append.result c.append.ensures.failed c.append.ensures.full
