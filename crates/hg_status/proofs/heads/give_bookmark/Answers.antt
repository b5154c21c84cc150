use Rattle.std.proofs.Common.{◌∙◌, ap, arith, set, sym}
use Rattle.std.proofs.lemmas.List.Edits.{map_over_more}
use Rattle.hg_status.specs.declared.heads.ShownHead.{ShownHead}
use Rattle.hg_status.specs.code.Giving.{given}
use Rattle.hg_status.proofs.heads.give_bookmark.Goals as goal

pub loop-head-preserved : goal.loop-head-preserved
loop-head-preserved g c =
    let gives = given (c.args.name.now, c.args.node.now) in
    let heads = c.loop-head.heads in
    let at = c.loop-head.head-index in
    ap (λ (h : ShownHead g.row.A.Denot). set heads at h) c.in_ok-add_bookmark.ensures
    ∙ ap (λ (h : ShownHead g.row.A.Denot). set heads at (gives h)) (sym c.head-item.is)
    ∙ map_over_more gives c.args.heads.now heads at c.head-item.result
    (omega (arith, c.loop-head-test.true, c.loop-head.auto.heads)) c.loop-head.invariant c.head-item.is
