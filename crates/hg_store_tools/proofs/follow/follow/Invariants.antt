use Rattle.hg_store_tools.proofs.Followings.{Following}
use Rattle.hg_store_tools.proofs.follow.follow.Given as goal

abbrev pub invariant-following : goal.invariant-following
invariant-following g l =
    Following g.row.A.Denot l.log l.first (g.T.StoreTrail.first l.trail) l.place
    (g.T.StoreTrail.found l.trail) (g.T.StoreTrail.durable l.trail)
    (g.W.Writer.told l.fn.writer).taken (g.W.Writer.told l.writer).taken
