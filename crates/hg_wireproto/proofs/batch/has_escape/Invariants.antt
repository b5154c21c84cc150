use Rattle.std.proofs.Common.{◌≡◌, take}
use Rattle.std.specs.List.{list_any}
use Rattle.hg_wireproto.specs.Batch.{needs_escape}
use Rattle.hg_wireproto.proofs.batch.has_escape.Given as goal

-- whether one of the bytes so far needs an escape
abbrev pub invariant-loop-byte : goal.invariant-loop-byte
invariant-loop-byte l = l.has ≡ list_any needs_escape (take l.byte-index l.piece)
