use Rattle.std.proofs.Common.{◌≡◌, ◌++◌, take}
use Rattle.hg_wireproto.specs.BranchMap.{quoted}
use Rattle.hg_wireproto.proofs.branchmap.push_quoted.Given as goal

-- the bytes so far, quoted
abbrev pub invariant-loop-byte : goal.invariant-loop-byte
invariant-loop-byte g l = l.text.items ≡ l.fn.text.items ++ quoted (take l.byte-index l.name)
