use Rattle.hg_store.proofs.Crash.{beat_leaves, beat_settled, on_ok_both}
use Rattle.hg_store.proofs.Moments.{weakly}
use Rattle.hg_store.proofs.log.Log.beat.Goals as goal

pub returns-clause-any_moment : goal.returns-clause-any_moment
returns-clause-any_moment g c = λ head records s.
    weakly g.D.Device.moment g.D.Device.left_since c.args.self.now.device c.put_synced.new.device _ _
    c.put_synced.ensures.any_moment
    (beat_leaves g.D.Device.seen g.D.Device.may_leave head records c.args.self.now s)

pub returns-clause-same : goal.returns-clause-same
returns-clause-same g c = λ head records s.
    on_ok_both c.put_synced.result
    (beat_settled g.D.Device.seen g.D.Device.may_leave head records c.args.self.now s c.put_synced.new.device)
    c.put_synced.ensures.written c.put_synced.ensures.durable
