use Rattle.hg_parts.proofs.CallerLemmas.{sound_unsaved, can_go_back_on}
use Rattle.hg_parts_tests.proofs.tests.steps.push_both.Goals as goal

pub invariant_of-held-in-Err : goal.invariant_of-held-in-Err
invariant_of-held-in-Err g c =
    rw (c.back_to.ensures c.held.inside.store
    (can_go_back_on _ _ _ _ c.savepoint-savepoint.ensures.savepoint c.in-Err.ensures.grown))
    (sound_unsaved _ _ c.held.invariant)
