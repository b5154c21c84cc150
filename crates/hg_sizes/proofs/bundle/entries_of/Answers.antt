use Rattle.std.proofs.Common.{◌∙◌}
use Rattle.hg_sizes.proofs.Bundles.{one_part_more}
use Rattle.hg_sizes.proofs.bundle.entries_of.Goals as goal

pub loop-part-preserved : goal.loop-part-preserved
loop-part-preserved g c =
    one_part_more c.args.parts.now c.loop-part.part-index c.part-item.result c.loop-part.all.items _
    c.into_vec-entries.result.items c.part-item.is c.loop-part-test.true c.loop-part.invariant c.in_ok-append.ensures.items
    (c.into_vec-entries.ensures ∙ c.in_ok-entries_in.ensures)
