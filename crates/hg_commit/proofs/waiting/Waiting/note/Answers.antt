use Rattle.std.proofs.Common.{◌≡◌, ℕ, sym, subst}
use mathlib.Core.List.{IsPrefix}
use Rattle.std.proofs.lemmas.List.Elements.{All-weaker}
use Rattle.hg_commit.specs.declared.waiting.Record.{Record}
use Rattle.hg_commit.specs.Clients.{AreWritten, Covers}
use Rattle.hg_commit.specs.Locks.{DiskView}
use Rattle.hg_commit.specs.Records.{IsRecordOf}
use Rattle.hg_commit.proofs.Covering.{covered_on}
use Rattle.hg_commit.proofs.waiting.Waiting.note.Goals as goal

pub invariant_of-self-2 : goal.invariant_of-self-2
invariant_of-self-2 g c =
    let w = c.self.inside in
    let i = c.self.invariant in
    let first = g.J.Naming.first in
    let new = c.show.new.client in
    let there = c.args.disk.now.history in
    let all = subst (λ (v : DiskView g.row.A.Denot g.row.D.Denot). IsPrefix v.history new) c.counted.ensures.same
    c.show.ensures.all in
    let count : c.args.disk.now.count ≡ c.count-self-inside.result = sym c.count-self-inside.ensures in (
      All-weaker (λ (r : Record g.row.A.Denot). IsRecordOf first w.witness r.place r.entry)
          (λ r. IsRecordOf first new r.place r.entry)
          (λ r p. c.records_stay.ensures.later first w.witness new r.place r.entry c.show.ensures.later p)
          w.records.items i.0,
      λ b. subst (λ (n : ℕ). Covers g.D.Device.seen g.D.Device.may_leave g.D.Device.moment g.J.Storing.head
          g.J.Storing.stored first new c.counted.result n) count
          (covered_on g.D.Device.seen g.D.Device.may_leave g.D.Device.moment g.J.Storing.head g.J.Storing.stored
          first there new c.counted.result c.args.disk.now.count
          (λ k entry r. c.records_stay.ensures.later first there new k entry all r)
          c.counted.ensures.covered),
      i.2,
      λ b. subst (λ (n : ℕ). AreWritten c.counted.result n c.ended-self-inside.result) count
          (subst (λ (n : ℕ). AreWritten c.counted.result c.args.disk.now.count n) (sym c.ended-self-inside.ensures)
          c.counted.ensures.written),
    )
