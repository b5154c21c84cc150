use Rattle.std.proofs.Common.{◌+◌, sym, subst, take}
use Rattle.std.specs.List.{AllZip}
use Rattle.hg_queries.specs.Copied.{IsCommandPiece}
use Rattle.hg_queries.proofs.Lists.{AllZip_next}
use Rattle.hg_queries.proofs.reading.each_piece.Goals as goal

pub loop-command-preserved : goal.loop-command-preserved
loop-command-preserved g c =
    subst (AllZip (IsCommandPiece c.args.repo.now) (take (c.loop-command.command-index + 1) c.args.commands.now))
    (sym c.in_ok-push.ensures.ok)
    (AllZip_next (IsCommandPiece c.args.repo.now) c.args.commands.now c.loop-command.pieces
    c.loop-command.command-index c.command-item.result c.in_ok-command_piece.field-0
    c.loop-command-test.true c.command-item.is c.loop-command.invariant c.in_ok-command_piece.ensures)
