use Rattle.hg_store_tools.specs.declared.fault.Fault.TheVariants.{Failed}
use Rattle.hg_store_tools.specs.declared.follow.FollowEnd.TheVariants.{Left, Stopped}
use Rattle.hg_store_tools.proofs.Followings.{following_left, following_more, following_stops}
use Rattle.hg_store_tools.proofs.follow.follow.Goals as goal

pub returns-then-not-goes_on : goal.returns-then-not-goes_on
returns-then-not-goes_on g c =
    following_left g.row.A.Denot c.args.log.now c.args.first (g.T.StoreTrail.first c.following.trail) c.following.place
    (g.T.StoreTrail.found c.following.trail)
    (g.T.StoreTrail.durable c.following.trail) (g.W.Writer.told c.args.writer.now).taken
    (g.W.Writer.told c.following.writer).taken c.following.invariant Left tt

pub returns-in-Err : goal.returns-in-Err
returns-in-Err g c =
    following_stops g.row.A.Denot c.args.log.now c.args.first (g.T.StoreTrail.first c.following.trail) c.following.place
    (g.T.StoreTrail.found c.following.trail)
    (g.T.StoreTrail.durable c.following.trail) (g.W.Writer.told c.args.writer.now).taken
    (g.W.Writer.told c.following.writer).taken c.following.invariant c.in-Err.fault
    (g.T.StoreTrail.found c.follow_on.new.trail) (g.T.StoreTrail.durable c.follow_on.new.trail)
    (g.W.Writer.told c.follow_on.new.writer).taken c.in-Err.ensures.err

pub following-preserved : goal.following-preserved
following-preserved g c =
    following_more g.row.A.Denot c.args.log.now c.args.first (g.T.StoreTrail.first c.following.trail) c.following.place
    (g.T.StoreTrail.found c.following.trail)
    (g.T.StoreTrail.durable c.following.trail) (g.W.Writer.told c.args.writer.now).taken
    (g.W.Writer.told c.following.writer).taken c.following.invariant c.in-Ok.look.next
    (g.T.StoreTrail.first c.follow_on.new.trail) (g.T.StoreTrail.found c.follow_on.new.trail)
    (g.T.StoreTrail.durable c.follow_on.new.trail)
    (g.W.Writer.told c.follow_on.new.writer).taken c.in-Ok.ensures.first c.in-Ok.ensures.ok

pub returns : goal.returns
returns g c =
    following_left g.row.A.Denot c.args.log.now c.args.first (g.T.StoreTrail.first c.following.trail) c.following.place
    (g.T.StoreTrail.found c.following.trail)
    (g.T.StoreTrail.durable c.following.trail) (g.W.Writer.told c.args.writer.now).taken
    (g.W.Writer.told c.following.writer).taken c.following.invariant (Stopped Failed) tt
