use Rattle.std.proofs.Common.{take}
use Rattle.std.specs.List.{AllZip}
use Rattle.hg_queries.specs.Copied.{IsCommandPiece}
use Rattle.hg_queries.proofs.reading.each_piece.Given as goal

-- the pieces so far
abbrev pub invariant-loop-command : goal.invariant-loop-command
invariant-loop-command g l = AllZip (IsCommandPiece l.repo) (take l.command-index l.commands) l.pieces
