use Rattle.std.proofs.Common.{◌≡◌, take}
use Rattle.std.specs.List.{flat_map}
use Rattle.hg_wireproto.specs.Once.{named_in}
use Rattle.hg_wireproto.proofs.Pieces.{texts}
use Rattle.hg_wireproto.proofs.once.pieces_named.Given as goal

-- the pieces of that name so far
abbrev pub invariant-loop-piece : goal.invariant-loop-piece
invariant-loop-piece g l = l.named ≡ flat_map (named_in l.name) (texts (take l.piece-index l.piece-items))
