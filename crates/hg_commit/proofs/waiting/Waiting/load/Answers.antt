use Rattle.std.proofs.Common.{◌≡◌, ◌≤◌, ◌+◌, ◌∙◌, ℕ, List, [], ◌∷◌, ap, arith, false, inl, inr, length, length-append, subst, sym}
use Rattle.std.specs.Prelude.{IfNone, Option, vec_len, vec_capacity}
use mathlib.Core.List.{IsPrefix}
use Rattle.hg_parts.specs.declared.item.Taken.{Taken}
use Rattle.hg_store.specs.Entries.{Entry}
use Rattle.hg_commit.specs.Clients.{AreWritten, Covers}
use Rattle.hg_commit.specs.Handing.{IfLast, IsFull, MovesTo, Stays}
use Rattle.hg_commit.specs.Locks.{AreWaiting, WaitingView}
use Rattle.hg_commit.specs.Records.{IsRecordOf}
use Rattle.hg_commit.specs.declared.waiting.Record.{Record}
use Rattle.hg_commit.specs.declared.disk.TheConstants.{BATCH, BATCH_BYTES, MOST}
use Rattle.hg_commit.proofs.Batches.{within_on}
use Rattle.hg_commit.proofs.Handing.{moves_none, moves_on}
use Rattle.hg_commit.proofs.waiting.Waiting.load.Goals as goal

pub invariant_of-self : goal.invariant_of-self
invariant_of-self g c =
    let w = c.self.inside in
    let first = g.J.Naming.first in
    subst (λ (h : List (Taken g.row.A.Denot)). AreWaiting first h w.records.items
    × (w.is_broken ≡ false → Covers g.D.Device.seen g.D.Device.may_leave g.D.Device.moment g.J.Storing.head
    g.J.Storing.stored first h w.counted w.count)
    × (vec_len w.records + w.rooms ≤ vec_capacity w.records)
    × (w.is_broken ≡ false → AreWritten w.counted w.count w.ended)) (sym c.hear.ensures.same) c.self.invariant

pub loading-init : goal.loading-init
loading-init g c =
    let waiting = c.args.self.now.records in
    let batch = c.args.disk.now.batch in
    let w = c.self.inside in
    record {
      seen = subst (λ (h : List (Taken g.row.A.Denot)). IsPrefix h c.hear.new.self.history)
          (sym c.hear.ensures.same) c.hear.ensures.all;
      moved = subst (λ (b : List Entry). MovesTo waiting batch w.records.items b) (sym c.hear.ensures.records.1)
          (subst (λ (l : List (Record g.row.A.Denot)). MovesTo waiting batch l batch)
          (ap (λ (v : WaitingView g.row.A.Denot). v.records) (sym c.self.view_is)) (moves_none waiting batch));
      within = inl c.hear.ensures.records.1;
    }

pub take_in-requires-clause-next : goal.take_in-requires-clause-next
take_in-requires-clause-next g c =
    let first = g.J.Naming.first in
    let entry = c.in-Some-pop_at.record.entry in
    subst (λ (n : ℕ). IsRecordOf first c.loading.disk.history n entry) c.in-Some.ensures.place
    (c.records_stay.ensures.later first c.loading.self.history c.loading.disk.history c.in-Some.place entry
    c.loading.invariant.seen c.in-Some-pop_at.ensures.found)

pub loading-preserved : goal.loading-preserved
loading-preserved g c =
    let waiting = c.args.self.now.records in
    let batch = c.args.disk.now.batch in
    let less = c.pop_at.new.self.records in
    let view = c.self-in-Some.view_is in
    let told = c.in-Some-pop_at.record in
    let there = ap (λ (v : WaitingView g.row.A.Denot). v.history) view ∙ c.in-Some-pop_at.ensures.same in
    record {
      seen = subst (λ (y : List (Taken g.row.A.Denot) × List (Taken g.row.A.Denot)). IsPrefix y.0 y.1)
          (λ i. (sym there i, sym c.take_in.ensures.same.0 i)) c.loading.invariant.seen;
      moved = subst (λ (l : List (Record g.row.A.Denot)). MovesTo waiting batch l c.take_in.new.self.batch)
          (ap (λ (v : WaitingView g.row.A.Denot). v.records) (sym view))
          (subst (λ (b : List Entry). MovesTo waiting batch less b) (sym c.take_in.ensures.taken)
          (moves_on waiting c.loading.self.records less batch c.loading.disk.batch told c.loading.invariant.moved
          c.in-Some-pop_at.ensures.last));
      within = within_on BATCH BATCH_BYTES batch c.loading.disk.batch c.take_in.new.self.batch told.entry
          c.in-Some.ensures.few c.in-Some-pop_at.ensures.fits c.take_in.ensures.taken;
    }

pub loading-smaller : goal.loading-smaller
loading-smaller g c =
    let more = ap length c.take_in.ensures.taken ∙ length-append c.loading.disk.batch (c.in-Some-pop_at.record.entry ∷ []) in
    let few = c.in-Some.ensures.few in
    omega (arith, more, few)

pub returns-in-None-clause-most : goal.returns-in-None-clause-most
returns-in-None-clause-most g c =
    let batch = c.loading.disk.batch in
    let next = c.loading.disk.count + length batch in
    inr (subst (λ (l : List (Record g.row.A.Denot)). IfLast (Stays BATCH_BYTES next batch) l) (sym c.in-None.ensures.none)
    (subst (λ (n : ℕ). IfLast (Stays BATCH_BYTES n batch) c.loading.self.records) c.in-Some.ensures.place
    c.in-None.ensures.stays))

pub returns-clause-most : goal.returns-clause-most
returns-clause-most g c =
    inl (subst (λ (r : Option ℕ). IfNone r (IsFull MOST BATCH c.loading.disk)) c.in_default.is c.next_place.ensures.full)
