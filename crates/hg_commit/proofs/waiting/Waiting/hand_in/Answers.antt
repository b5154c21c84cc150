use Rattle.std.proofs.Common.{List, ap, sym, subst}
use Rattle.std.proofs.lemmas.List.Elements.{All-weaker}
use Rattle.hg_commit.specs.declared.waiting.Record.{Record}
use Rattle.hg_commit.specs.Records.{IsRecordOf}
use Rattle.std.specs.Prelude.{is_ok}
use Rattle.hg_commit.specs.Locks.{AreWaiting, IsHandedIn, WaitingView}
use Rattle.hg_commit.proofs.Covering.{covered_on}
use Rattle.hg_commit.proofs.Handing.{one_more_at}
use Rattle.hg_commit.proofs.Lists.{either_insert, room_left}
use Rattle.hg_commit.proofs.waiting.Waiting.hand_in.Goals as goal

pub invariant_of-self : goal.invariant_of-self
invariant_of-self g c =
    let w = c.self.inside in
    let i = c.self.invariant in
    let first = g.J.Naming.first in
    let new = c.meet.new.witness in (
      subst (λ (l : List (Record g.row.A.Denot)). AreWaiting first new l) (sym c.insert.ensures.items)
          (either_insert (λ (r : Record g.row.A.Denot). IsRecordOf first new r.place r.entry)
          (is_ok c.insert.result) w.records.items c.place_for-at.result c.args.waiting
          (All-weaker (λ (r : Record g.row.A.Denot). IsRecordOf first w.witness r.place r.entry)
          (λ r. IsRecordOf first new r.place r.entry)
          (λ r p. c.records_stay.ensures.later first w.witness new r.place r.entry c.meet.ensures.later p)
          w.records.items i.0)
          (c.records_stay.ensures.later first c.args.client.now new c.args.waiting.place c.args.waiting.entry
          c.meet.ensures.one c.requires)),
      λ b. covered_on g.D.Device.seen g.D.Device.may_leave g.D.Device.moment g.J.Storing.head g.J.Storing.stored
          first w.witness new w.counted w.count
          (λ k entry r. c.records_stay.ensures.later first w.witness new k entry c.meet.ensures.later r)
          (i.1 b),
      room_left (is_ok c.insert.result) _ _ _ _ _ _ c.insert.ensures.len c.give_back.ensures i.2
          c.insert.ensures.capacity,
      i.3,
    )

pub returns-clause-taken : goal.returns-clause-taken
returns-clause-taken g c =
    subst (λ (l : List (Record g.row.A.Denot)). IsHandedIn l c.args.waiting c.insert.new.self.items)
    (ap (λ (v : WaitingView g.row.A.Denot). v.records) c.self.view_is)
    (one_more_at c.self.inside.records.items c.insert.new.self.items c.place_for-at.result c.args.waiting
    (is_ok c.insert.result) c.insert.ensures.items (ap is_ok c.in-Ok.is))
