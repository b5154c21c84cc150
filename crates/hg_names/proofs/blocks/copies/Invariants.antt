use Rattle.std.proofs.Common.{◌≡◌, take, All}
use Rattle.hg_names.specs.code.Blocks.{pairs_in, IsFilled}
use Rattle.hg_names.proofs.blocks.copies.Given as goal

-- the blocks so far are copied
abbrev pub invariant-loop-block : goal.invariant-loop-block
invariant-loop-block g l = record {
  pairs : pairs_in l.copies.items ≡ pairs_in (take l.block-index l.blocks);
  filled : All IsFilled l.copies.items;
}
