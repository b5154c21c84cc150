use Rattle.std.proofs.Common.{length, ap, arith}
use Rattle.hg_types.specs.declared.phase.Phase.TheVariants.{Draft, Secret}
use Rattle.hg_phases.proofs.Told.{told_none}
use Rattle.hg_phases.proofs.Soundness.{sound_unsaved}
use Rattle.hg_phases.proofs.phases.Phases.new.Goals as goal

pub invariant_of-result : goal.invariant_of-result
invariant_of-result g c =
    let index = c.new.result in
    sound_unsaved index.rows index.kept.items index.saved c.new.ensures.saved
    c.new.ensures.kept (omega (arith, ap length c.new.ensures.rows))

pub returns : goal.returns
returns g c = rw (c.new.ensures.rows, told_none Draft 0, told_none Secret 0)
