use Rattle.std.proofs.Common.{◌≡◌, ◌+◌}
use Rattle.hg_names.specs.code.Blocks.{start_of}
use Rattle.hg_names.proofs.blocks.spot_at.Given as goal

-- the names of the blocks so far come before the place
abbrev pub invariant-loop-number : goal.invariant-loop-number
invariant-loop-number g l = start_of l.blocks l.number + l.rest ≡ l.place
