use Rattle.std.proofs.Common.{◌≡◌, take}
use Rattle.hg_names.proofs.blocks.pair_copies.Given as goal

-- the pairs so far are copied
abbrev pub invariant-loop-pair : goal.invariant-loop-pair
invariant-loop-pair g l = l.copies.items ≡ take l.pair-index l.pairs
