use Rattle.hg_commit.proofs.Keeping.{keeps_on}
use Rattle.hg_commit.proofs.Lists.{each_moves}
use Rattle.hg_commit.proofs.Living.{lives_on, promises_on}
use Rattle.hg_commit.proofs.disk.Disk.hear.Goals as goal

pub invariant_of-self : goal.invariant_of-self
invariant_of-self g c =
    let d = c.self.inside in
    let i = c.self.invariant in
    let first = g.J.Naming.first in
    let old = d.witness in
    let new = c.meet.new.witness in (
      i.0,
      λ b. keeps_on g.D.Device.seen g.D.Device.may_leave g.J.Storing.head g.J.Storing.stored first old new d.count
          d.log (λ k entry r. c.records_stay.ensures.later first old new k entry c.meet.ensures.later r) (i.1 b),
      each_moves first old new
          (λ k entry r. c.records_stay.ensures.later first old new k entry c.meet.ensures.later r) d.count
          d.batch.items i.2,
      lives_on g.D.Device.moment g.D.Device.left_since g.D.Device.may_leave g.J.Storing.head g.J.Storing.stored first
          g.J.Storing.opened old new d.count d.log.device
          (λ k entry r. c.records_stay.ensures.later first old new k entry c.meet.ensures.later r) i.3,
      promises_on g.D.Device.moment g.D.Device.left_since g.J.Storing.head g.J.Storing.stored first old new d.count
          d.log.device (λ k entry r. c.records_stay.ensures.later first old new k entry c.meet.ensures.later r)
          d.keeper.promises i.4,
      i.5,
      i.6,
      i.7,
      i.8,
      i.9,
    )
