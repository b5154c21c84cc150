use Rattle.std.proofs.Common.{◌≡◌, ◌++◌, length}
use Rattle.hg_wireproto.specs.Branch.{branch_of, plain_extra}
use Rattle.hg_wireproto.proofs.branch.push_branch.Given as goal

-- the bytes so far and those of the rest are all
abbrev pub invariant-loop-rest : goal.invariant-loop-rest
invariant-loop-rest g l = l.name.items ++ plain_extra l.rest ≡ l.fn.name.items ++ branch_of l.fn.text

abbrev pub decreases-loop-rest : goal.decreases-loop-rest
decreases-loop-rest g l = length l.rest
