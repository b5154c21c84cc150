use Rattle.std.proofs.Common.{ap, arith, length, subst}
use Rattle.std.specs.List.{All}
use Rattle.hg_names.specs.code.Blocks.{IsFilled}
use Rattle.hg_names.proofs.Filled.{all_rest}
use Rattle.hg_names.proofs.names.Entries.next.Goals as goal

pub invariant_of-self-2 : goal.invariant_of-self-2
invariant_of-self-2 g c =
    all_rest IsFilled c.in_ok-block.block.now c.in_ok-block.blocks.now
    (subst (All IsFilled) c.in_ok-block.ensures.cases.0 c.self.invariant)

pub returns-in_err-pair-clause-none : goal.returns-in_err-pair-clause-none
returns-in_err-pair-clause-none g c =
    let filled = subst (All IsFilled) c.in_ok-block.ensures.cases.0 c.self.invariant 0 c.in_ok-block.block.now (omega arith) in
    absurd (omega (arith, filled, c.in_err-pair.ensures.cases, ap length c.as_slice-2.ensures.value))
