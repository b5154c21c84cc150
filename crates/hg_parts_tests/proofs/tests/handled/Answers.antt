use Rattle.hg_parts.proofs.CallerLemmas.{sound_saved, sound_unsaved, can_go_back_on}
use Rattle.hg_parts_tests.proofs.tests.handled.Goals as goal

pub handle_part-requires : goal.handle_part-requires
handle_part-requires g c = rw c.savepoint-savepoint.ensures.store (sound_saved _ _ c.held.invariant)

pub back_to-requires : goal.back_to-requires
back_to-requires g c = (
  c.held.inside.store,
  can_go_back_on _ _ _ _ c.savepoint-savepoint.ensures.savepoint c.in-Err.ensures.grown,
)

pub invariant_of-held-in-Err : goal.invariant_of-held-in-Err
invariant_of-held-in-Err g c =
    rw (c.back_to.ensures c.held.inside.store
    (can_go_back_on _ _ _ _ c.savepoint-savepoint.ensures.savepoint c.in-Err.ensures.grown))
    (sound_unsaved _ _ c.held.invariant)
