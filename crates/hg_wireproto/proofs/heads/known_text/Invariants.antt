use Rattle.std.proofs.Common.{◌≡◌, take, map}
use Rattle.hg_wireproto.specs.Heads.{known_digit}
use Rattle.hg_wireproto.proofs.Pieces.{texts}
use Rattle.hg_wireproto.proofs.heads.known_text.Given as goal

-- the digits of the pieces so far
abbrev pub invariant-loop-piece : goal.invariant-loop-piece
invariant-loop-piece g l = l.text ≡ map (known_digit l.log.rows) (texts (take l.piece-index l.piece-items))
