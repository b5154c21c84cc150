use Rattle.std.proofs.Common.{◌≡◌, false, ◌∙◌, ℕ, List, arith, sym, ap, subst}
use Rattle.std.specs.Prelude.{Contains}
use Rattle.hg_commit.specs.Clients.{AreWritten, Covers}
use Rattle.hg_commit.specs.Locks.{DiskView}
use Rattle.hg_commit.specs.Promises.{Promise}
use Rattle.hg_commit.proofs.Covering.{covers}
use Rattle.hg_commit.proofs.disk.Disk.counted.Goals as goal

pub returns-clause-covered : goal.returns-clause-covered
returns-clause-covered g c =
    let d = c.self.inside in
    let beats : ℕ = g.D.Device.beats d.log.device in
    let one : Promise = record {
      count = d.count;
      moment = g.D.Device.moment d.log.device;
      write = d.ended;
      beats = beats;
    } in
    let whole : d.is_broken ≡ false = ap (λ v. v.is_broken) c.self.view_is ∙ c.requires in
    let has = subst (λ (l : List Promise). Contains l one)
    (sym c.grant.ensures.promised) (c.self.invariant.5 whole) in
    subst (λ (v : DiskView g.row.A.Denot g.row.D.Denot). Covers g.D.Device.seen g.D.Device.may_leave
    g.D.Device.moment g.J.Storing.head g.J.Storing.stored g.J.Naming.first
    v.history c.grant.result v.count) c.self.view_is
    (covers g.D.Device.seen g.D.Device.may_leave g.D.Device.moment g.J.Storing.head g.J.Storing.stored
    g.J.Naming.first d.witness d.count d.ended beats d.log c.grant.result (c.self.invariant.1 whole) has)

pub returns-clause-written : goal.returns-clause-written
returns-clause-written g c =
    let d = c.self.inside in
    let beats : ℕ = g.D.Device.beats d.log.device in
    let one : Promise = record {
      count = d.count;
      moment = g.D.Device.moment d.log.device;
      write = d.ended;
      beats = beats;
    } in
    let whole : d.is_broken ≡ false = ap (λ v. v.is_broken) c.self.view_is ∙ c.requires in
    let has = subst (λ (l : List Promise). Contains l one)
    (sym c.grant.ensures.promised) (c.self.invariant.5 whole) in
    subst (λ (v : DiskView g.row.A.Denot g.row.D.Denot). AreWritten c.grant.result v.count v.ended) c.self.view_is
    (record {
      promise = one;
      has = has;
      counts = omega arith;
      written = omega arith;
    })
