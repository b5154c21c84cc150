use Rattle.std.proofs.Common.{◌≡◌, ◌++◌, take}
use Rattle.hg_wireproto.specs.Branch.{plain_extra}
use Rattle.hg_wireproto.proofs.branch.behind_key.Given as goal

-- the extra is the key so far and the rest
abbrev pub invariant-loop-byte : goal.invariant-loop-byte
invariant-loop-byte l = plain_extra l.extra ≡ take l.byte-index l.key ++ plain_extra l.rest
