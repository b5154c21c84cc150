use Rattle.std.proofs.Common.{◌+◌, ◌-◌, ◌/◌, ◌<◌, length, arith, subst}
use Rattle.std.specs.List.{HoldsAt}
use Rattle.hg_names.specs.declared.blocks.Block.{Block}
use Rattle.hg_names.specs.code.Blocks.{IsGreater, IsNotGreater}
use Rattle.hg_names.proofs.Own.{items}
use Rattle.hg_names.proofs.Search.{lesser_to, greater_from}
use Rattle.hg_names.proofs.blocks.block_of.Goals as goal

pub loop-high-preserved-then-is_behind : goal.loop-high-preserved-then-is_behind
loop-high-preserved-then-is_behind g c =
    let blocks = c.args.blocks.now in
    let name = c.args.name.now in
    let middle = c.loop-high.low + (c.loop-high.high - c.loop-high.low) / 2 in
    let block = c.index-blocks-middle.result in
    let within : middle < length blocks =
    omega (arith, c.loop-high-test.true, c.loop-high.invariant.below, c.loop-high.invariant.within) in
    record {
      below = omega (arith, c.loop-high-test.true);
      within = omega (arith, within);
      lesser = c.loop-high.invariant.lesser;
      greater = greater_from items blocks middle block within name c.requires.in_order
          (c.requires.filled middle block within)
          (subst (λ (b : Block g.row.A.Denot). HoldsAt (IsGreater name) (items b) 0) c.index-blocks-middle.is
          (c.is_behind.ensures.behind c.if-is_behind.true));
    }

pub loop-high-preserved : goal.loop-high-preserved
loop-high-preserved g c =
    let blocks = c.args.blocks.now in
    let name = c.args.name.now in
    let middle = c.loop-high.low + (c.loop-high.high - c.loop-high.low) / 2 in
    let block = c.index-blocks-middle.result in
    let within : middle < length blocks =
    omega (arith, c.loop-high-test.true, c.loop-high.invariant.below, c.loop-high.invariant.within) in
    record {
      below = omega (arith, c.loop-high-test.true);
      within = c.loop-high.invariant.within;
      lesser = lesser_to items blocks middle block within name c.requires.in_order
          (c.requires.filled middle block within)
          (subst (λ (b : Block g.row.A.Denot). HoldsAt (IsNotGreater name) (items b) 0) c.index-blocks-middle.is
          (c.is_behind.ensures.upto c.if-is_behind.false));
      greater = c.loop-high.invariant.greater;
    }
