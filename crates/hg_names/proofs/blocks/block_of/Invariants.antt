use Rattle.std.proofs.Common.{◌<◌, ◌≤◌, ◌-◌, length}
use Rattle.std.specs.List.{AllWithin}
use Rattle.hg_names.specs.code.Blocks.{pairs_in, start_of, IsLess, IsGreater}
use Rattle.hg_names.proofs.blocks.block_of.Given as goal

-- the names before the lower block are lesser, and those from the higher one on are greater
abbrev pub invariant-loop-high : goal.invariant-loop-high
invariant-loop-high g l = record {
  below : l.low < l.high;
  within : l.high ≤ length l.blocks;
  lesser : AllWithin (IsLess l.name) (pairs_in l.blocks) 0 (start_of l.blocks l.low);
  greater : AllWithin (IsGreater l.name) (pairs_in l.blocks) (start_of l.blocks l.high) (length (pairs_in l.blocks));
}

abbrev pub decreases-loop-high : goal.decreases-loop-high
decreases-loop-high g l = l.high - l.low
