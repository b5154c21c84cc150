use Rattle.std.specs.Prelude.{◌≡◌, take}
use Rattle.hg_store_tools.specs.Places.{index_front}
use Rattle.hg_store_tools.proofs.index.index_bytes.Given as goal

-- the marks so far stand behind the letters
abbrev pub invariant-loop-mark : goal.invariant-loop-mark
invariant-loop-mark g l = l.bytes.items ≡ index_front (take l.mark-index l.marks)
