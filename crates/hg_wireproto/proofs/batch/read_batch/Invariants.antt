use Rattle.std.proofs.Common.{◌≡◌, take, map}
use Rattle.hg_wireproto.specs.Batch.{command_of}
use Rattle.hg_wireproto.proofs.Pieces.{texts}
use Rattle.hg_wireproto.proofs.batch.read_batch.Given as goal

-- the commands of the pieces so far
abbrev pub invariant-loop-piece : goal.invariant-loop-piece
invariant-loop-piece g l = l.commands ≡ map command_of (texts (take l.piece-index l.piece-items))
