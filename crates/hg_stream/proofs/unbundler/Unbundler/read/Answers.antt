use Rattle.std.proofs.Common.{◌+◌, arith, refl, ◌∙◌, subst}
use Rattle.hg_stream.specs.code.Steps.{Moves, Halts}
use Rattle.hg_stream.proofs.Moves.{moves_none, moves_then, halts_then, piece_then, within_piece}
use Rattle.hg_stream.proofs.unbundler.Unbundler.read.Goals as goal

pub loop-taken-init : goal.loop-taken-init
loop-taken-init g c = record {
  within = omega arith;
  limits = refl;
  stream_left = refl;
  moved = moves_none c.args.self.now;
}

pub loop-taken-preserved : goal.loop-taken-preserved
loop-taken-preserved g c = record {
  within = within_piece c.args.piece.now c.loop-taken.taken c.in-Ok.count c.loop-taken.invariant.within
      c.in-Ok.ensures.count;
  limits = c.advance.ensures.limits ∙ c.loop-taken.invariant.limits;
  stream_left = c.advance.ensures.stream_left ∙ c.loop-taken.invariant.stream_left;
  moved = subst (λ t. Moves c.args.self.now c.advance.new.self t)
      (piece_then c.args.piece.now c.loop-taken.taken c.in-Ok.count)
      (moves_then c.args.self.now c.loop-taken.self c.advance.new.self _ _ c.loop-taken.invariant.moved
      c.in-Ok.ensures.ok);
}

pub returns-in-Err-clause-err : goal.returns-in-Err-clause-err
returns-in-Err-clause-err g c =
    let failed = c.in-Err.ensures.err in (
      c.loop-taken.taken + failed.0,
      within_piece c.args.piece.now c.loop-taken.taken failed.0 c.loop-taken.invariant.within failed.1,
      subst (λ t. Halts c.in-Err.fault c.args.self.now c.advance.new.self t)
          (piece_then c.args.piece.now c.loop-taken.taken failed.0)
          (halts_then c.in-Err.fault c.args.self.now c.loop-taken.self c.advance.new.self _ _
          c.loop-taken.invariant.limits c.advance.ensures.limits c.in-Err.ensures.kept
          c.loop-taken.invariant.moved failed.2),
    )
