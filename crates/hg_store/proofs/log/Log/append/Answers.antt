use Rattle.hg_store.proofs.Moments.{one_behind, weakly}
use Rattle.hg_store.proofs.Crash.{added, gate_leaves, has_begun}
use Rattle.hg_store.proofs.log.Log.append.Goals as goal

-- the batch and its gate leave the records as they were
pub returns-in_err-end-clause-any_moment : goal.returns-in_err-end-clause-any_moment
returns-in_err-end-clause-any_moment g c = λ head records s.
    weakly g.D.Device.moment g.D.Device.left_since c.args.self.now.device c.stage.new.self.device _ _
    c.stage.ensures.front.any_moment
    (has_begun g.D.Device.seen g.D.Device.may_leave head records c.args.batch.now c.args.self.now s)

-- the first gate leaves them with the batch or without
pub returns-in_err-put_synced-clause-any_moment : goal.returns-in_err-put_synced-clause-any_moment
returns-in_err-put_synced-clause-any_moment g c = λ head records s.
    one_behind g.D.Device.moment g.D.Device.left_since c.args.self.now.device c.stage.new.self.device
    c.put_synced.new.device _ _ _ c.stage.ensures.front.any_moment c.put_synced.ensures.any_moment
    (has_begun g.D.Device.seen g.D.Device.may_leave head records c.args.batch.now c.args.self.now s)
    (gate_leaves g.D.Device.seen g.D.Device.may_leave head records c.args.batch.now c.args.self.now s
    c.requires.some c.in_ok-end.ensures.each c.stage.new.self.device c.stage.new.self.end
    c.in_ok-end.ensures.staged c.stage.ensures.same.0 c.in_ok-end.ensures.durable)

pub returns-clause-any_moment : goal.returns-clause-any_moment
returns-clause-any_moment g c = λ head records s.
    one_behind g.D.Device.moment g.D.Device.left_since c.args.self.now.device c.stage.new.self.device
    c.put_synced.new.device _ _ _ c.stage.ensures.front.any_moment c.put_synced.ensures.any_moment
    (has_begun g.D.Device.seen g.D.Device.may_leave head records c.args.batch.now c.args.self.now s)
    (gate_leaves g.D.Device.seen g.D.Device.may_leave head records c.args.batch.now c.args.self.now s
    c.requires.some c.in_ok-end.ensures.each c.stage.new.self.device c.stage.new.self.end
    c.in_ok-end.ensures.staged c.stage.ensures.same.0 c.in_ok-end.ensures.durable)

-- and then the batch is on the disk
pub returns-clause-acknowledged : goal.returns-clause-acknowledged
returns-clause-acknowledged g c = λ head records s.
    added g.D.Device.seen g.D.Device.may_leave head records c.args.batch.now c.args.self.now s c.requires.some
    c.in_ok-end.ensures.each c.stage.new.self.device c.stage.new.self.end c.in_ok-end.ensures.staged
    c.stage.ensures.same.0 c.put_synced.new.device c.in_ok-end.end c.in_ok-end.digest
    c.in_ok-put_synced.ensures.written c.in_ok-put_synced.ensures.durable c.in_ok-end.ensures.end
    c.in_ok-end.ensures.digest
