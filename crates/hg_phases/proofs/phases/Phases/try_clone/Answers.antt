use Rattle.std.proofs.Common.{length, ap, arith}
use Rattle.hg_phases.proofs.Soundness.{sound_unsaved}
use Rattle.hg_phases.proofs.phases.Phases.try_clone.Goals as goal

pub invariant_of-result : goal.invariant_of-result
invariant_of-result g c =
    let index = c.in_ok-index.index in
    sound_unsaved index.rows index.kept.items index.saved c.in_ok-index.ensures.saved
    c.in_ok-index.ensures.kept
    (omega (arith, c.self.invariant.few, ap length c.in_ok-index.ensures.rows))
