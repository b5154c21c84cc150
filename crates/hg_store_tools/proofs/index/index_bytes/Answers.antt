use Rattle.std.proofs.Common.{◌∙◌}
use Rattle.hg_store_tools.proofs.Indexes.{front_more}
use Rattle.hg_store_tools.proofs.index.index_bytes.Goals as goal

pub loop-mark-preserved : goal.loop-mark-preserved
loop-mark-preserved g c =
    c.in_ok-put_mark.ensures
    ∙ front_more c.args.marks.now c.loop-mark.mark-index _ c.loop-mark.bytes.items c.loop-mark-test.true
    c.loop-mark.invariant
