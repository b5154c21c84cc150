use Rattle.hg_store_tools.proofs.following.send_trail.Goals as goal

pub invariant_of-log : goal.invariant_of-log
invariant_of-log g c = c.in-Ok.ensures.head.limits
