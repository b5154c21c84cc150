use Rattle.std.proofs.Common.{[], ◌++◌}
use Rattle.hg_stream.specs.Block.{sized}
use Rattle.hg_stream.specs.Frames.{magic}
use Rattle.hg_stream.proofs.Writing.{one_more}
use Rattle.hg_stream.proofs.write.write_bundle.Goals as goal

pub loop-place-preserved : goal.loop-place-preserved
loop-place-preserved g c =
    one_more c.loop-place.out.items c.write_part.new.out.items (magic
    ++ sized []) c.args.parts.now c.loop-place.place c.index-parts-place.result c.loop-place.invariant
    c.loop-place-test.true c.index-parts-place.is c.in_ok-write_part.ensures
