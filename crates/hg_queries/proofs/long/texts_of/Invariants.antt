use Rattle.std.proofs.Common.{take}
use Rattle.std.specs.List.{AllZip}
use Rattle.hg_queries.specs.Copied.{IsOfPiece}
use Rattle.hg_queries.proofs.long.texts_of.Given as goal

-- the texts so far
abbrev pub invariant-loop-piece : goal.invariant-loop-piece
invariant-loop-piece g l = AllZip (IsOfPiece l.view) (take l.piece-index l.pieces) l.texts
