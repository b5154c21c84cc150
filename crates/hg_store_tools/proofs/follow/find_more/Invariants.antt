use Rattle.hg_store_tools.proofs.Followings.{Finding}
use Rattle.hg_store_tools.proofs.follow.find_more.Given as goal

abbrev pub invariant-finding : goal.invariant-finding
invariant-finding g l =
    Finding (g.T.StoreTrail.first l.fn.trail) (g.T.StoreTrail.found l.fn.trail) (g.T.StoreTrail.durable l.fn.trail)
    (g.T.StoreTrail.first l.trail) (g.T.StoreTrail.found l.trail) (g.T.StoreTrail.durable l.trail) l.records.items
