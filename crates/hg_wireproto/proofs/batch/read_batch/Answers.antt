use Rattle.hg_wireproto.specs.Batch.{command_of, commands_of}
use Rattle.hg_wireproto.proofs.Pieces.{mapped_all, mapped_more}
use Rattle.hg_wireproto.proofs.batch.read_batch.Goals as goal

pub returns : goal.returns
unfolding commands_of
returns g c =
    mapped_all command_of c.deref-piece-items.result.now c.in_ok-pieces.pieces.items c.loop-piece.piece-index
    _ c.loop-piece.commands c.loop-piece-test.false c.deref-piece-items.ensures.value c.in_ok-pieces.ensures
    c.loop-piece.invariant

pub loop-piece-preserved : goal.loop-piece-preserved
loop-piece-preserved g c =
    mapped_more command_of c.deref-piece-items.result.now c.loop-piece.piece-index _ c.loop-piece.commands
    c.push.new.self _ c.loop-piece-test.true c.loop-piece.invariant c.in_ok-push.ensures.ok
    c.in_ok-read_command.ensures
