use Rattle.std.proofs.Common.{arith, refl}
use Rattle.hg_import.proofs.Fronts.{reads_more, reads_none}
use Rattle.hg_import.proofs.reading.read_front.Goals as goal

pub reads-preserved-in-Ok : goal.reads-preserved-in-Ok
reads-preserved-in-Ok g c = (
  reads_more _ _ _ c.reads.bytes.items _ c.read_piece.new.piece c.reads.left _ c.in-Ok.got _ c.reads.invariant.0
      c.in-Ok.ensures.bytes (omega (arith, c.in-Ok.ensures.bound, c.read_piece.array_long)) c.in-Ok.ensures.most
      c.in_ok-add_piece-in-Ok.ensures refl,
  c.reads.invariant.1,
)

pub reads-preserved : goal.reads-preserved
reads-preserved g c = (
  reads_none _ _ _ c.reads.bytes.items _ c.reads.left _ _ c.reads.invariant.0 c.in-Err.ensures.failed refl refl,
  omega (arith, c.reads.invariant.1, c.if-interrupted-eq-MOST_INTERRUPTED.false),
)
