use Rattle.std.proofs.Common.{◌≡◌, false, List, sym, ap, subst, ◌∙◌}
use Rattle.std.proofs.Common.{arith}
use Rattle.std.specs.Prelude.{Contains}
use Rattle.std.proofs.lemmas.List.Elements.{All-weaker}
use Rattle.hg_commit.specs.declared.waiting.Record.{Record}
use Rattle.hg_commit.specs.Clients.{AreWritten, Covers}
use Rattle.hg_commit.specs.Promises.{Promise}
use Rattle.hg_commit.specs.Records.{IsRecordOf}
use Rattle.hg_commit.specs.Records.{done_in}
use Rattle.hg_commit.proofs.Covering.{covered_back, covered_on}
use Rattle.hg_commit.proofs.waiting.Waiting.grant.Goals as goal

pub invariant_of-self : goal.invariant_of-self
invariant_of-self g c =
    let w = c.self.inside in
    let i = c.self.invariant in
    let first = g.J.Naming.first in
    let new = c.meet.new.witness in (
      All-weaker (λ (r : Record g.row.A.Denot). IsRecordOf first w.witness r.place r.entry)
          (λ r. IsRecordOf first new r.place r.entry)
          (λ r p. c.records_stay.ensures.later first w.witness new r.place r.entry c.meet.ensures.later p)
          w.records.items i.0,
      λ b. subst (λ (l : List Promise). Covers g.D.Device.seen g.D.Device.may_leave g.D.Device.moment
          g.J.Storing.head g.J.Storing.stored first new l w.count)
          (sym c.again.ensures.same)
          (covered_on g.D.Device.seen g.D.Device.may_leave g.D.Device.moment g.J.Storing.head g.J.Storing.stored
          first w.witness new w.counted w.count
          (λ k entry r. c.records_stay.ensures.later first w.witness new k entry c.meet.ensures.later r) (i.1 b)),
      i.2,
      λ b. subst (λ (l : List Promise). AreWritten l w.count w.ended) (sym c.again.ensures.same) (i.3 b),
    )

pub returns-clause-covered : goal.returns-clause-covered
returns-clause-covered g c =
    let w = c.self.inside in
    let first = g.J.Naming.first in
    let new = c.meet.new.witness in
    let mine = c.args.client.now in
    let whole : w.is_broken ≡ false = ap (λ v. v.is_broken) c.self.view_is ∙ c.requires.whole in
    let same : w.count ≡ c.args.self.now.count = ap (λ v. v.count) c.self.view_is in
    let all = covered_on g.D.Device.seen g.D.Device.may_leave g.D.Device.moment g.J.Storing.head g.J.Storing.stored
    first w.witness new w.counted w.count
    (λ k entry r. c.records_stay.ensures.later first w.witness new k entry c.meet.ensures.later r)
    (c.self.invariant.1 whole) in
    let receipt : List Promise = w.counted in
    subst (λ (l : List Promise). Covers g.D.Device.seen g.D.Device.may_leave g.D.Device.moment
    g.J.Storing.head g.J.Storing.stored first mine l c.args.rests)
    (sym c.again.ensures.promised)
    (covered_back g.D.Device.seen g.D.Device.may_leave g.D.Device.moment g.J.Storing.head g.J.Storing.stored first
    new mine receipt w.count c.args.rests (done_in first mine) (omega (arith, c.requires.low, same))
    c.requires.done (λ k entry low r. c.records_stay.ensures.earlier first mine new k entry c.meet.ensures.one low r)
    all)

pub returns-clause-written : goal.returns-clause-written
returns-clause-written g c =
    let w = c.self.inside in
    let whole : w.is_broken ≡ false = ap (λ v. v.is_broken) c.self.view_is ∙ c.requires.whole in
    let same : w.count ≡ c.args.self.now.count = ap (λ v. v.count) c.self.view_is in
    let late : w.ended ≡ c.args.self.now.ended = ap (λ v. v.ended) c.self.view_is in
    let was = c.self.invariant.3 whole in
    record {
      promise = was.promise;
      has = subst (λ (l : List Promise). Contains l was.promise) (sym c.again.ensures.promised) was.has;
      counts = omega (arith, c.requires.low, same, was.counts);
      written = omega (arith, late, was.written);
    }
