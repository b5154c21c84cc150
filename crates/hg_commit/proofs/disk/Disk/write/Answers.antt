use Rattle.std.proofs.Common.{◌≡◌, ◌<◌, ◌≤◌, ◌+◌, ◌-◌, ◌++◌, ◌∷◌, [], false, true, ℕ, List, ap, append-nil, refl, sym, subst, vec_len, ◌∙◌}
use Rattle.std.proofs.Common.{arith, length}
use Rattle.std.specs.List.{AllByRecursion}
use Rattle.hg_store.specs.Entries.{Entry}
use Rattle.hg_store.specs.Device.{LeavesOnly}
use Rattle.hg_store.specs.Records.{IsSized}
use Rattle.hg_store.specs.Log.{IsBeforeOrAfter, IsSettled}
use Rattle.std.specs.Prelude.{Contains}
use Rattle.std.proofs.lemmas.List.Elements.{All-push, All-same, All-weaker, Contains-push}
use Rattle.hg_commit.specs.Lives.{IsFront, IsKeptSince}
use Rattle.hg_commit.specs.Promises.{KeeperView, Promise}
use Rattle.hg_commit.specs.code.Tallies.{one_more}
use Rattle.hg_commit.specs.Handing.{batch_bytes}
use Rattle.hg_commit.specs.Locks.{DiskView}
use Rattle.hg_commit.specs.Records.{AreRecordsFrom, KeepsRecords}
use Rattle.hg_commit.specs.declared.disk.TheConstants.{BATCH_BYTES}
use Rattle.hg_commit.proofs.Keeping.{keeps_more}
use Rattle.hg_commit.proofs.Handing.{none_more, off}
use Rattle.hg_commit.proofs.Beats.{said_with}
use Rattle.hg_commit.proofs.Lists.{fit, went_well}
use Rattle.hg_commit.proofs.Living.{kept_front, lives_after, lives_failed, promise_now, promises_after, still_front, written_front}
use Rattle.hg_commit.proofs.disk.Disk.write.Goals as goal
use Rattle.hg_commit.proofs.disk.Disk.write.Goals.{then-self-via-then-self, then-self-via-else-self+then-is_empty}

pub append-requires-clause-each : goal.append-requires-clause-each
append-requires-clause-each g c =
    let d = c.self.inside in
    let i = c.self.invariant in
    subst (λ (l : List Entry). AllByRecursion IsSized l) (sym c.as_slice.ensures.value)
    (fit g.J.Naming.first i.0 d.witness d.count d.batch.items i.2)

-- no promise counts more than the records that are there now
pub raise-requires-clause-most : goal.raise-requires-clause-most
raise-requires-clause-most g c =
    let d = c.self.inside in
    All-weaker (IsKeptSince g.D.Device.moment g.D.Device.left_since g.J.Storing.head g.J.Storing.stored
    g.J.Naming.first d.witness d.count d.log.device) (λ p. p.count ≤ d.count + c.len.result)
    (λ p k. let few = k.few in omega (arith, few)) d.keeper.promises c.self.invariant.4

-- it has had a beat since the last write began
pub raise-requires-clause-beat : goal.raise-requires-clause-beat
raise-requires-clause-beat g c = λ some.
    let beats = g.D.Device.beats in
    let was = c.self.invariant.8 c.if-self.false some in
    let more : beats c.self.inside.log.device < beats c.append.new.self.device =
    went_well c.append.result (sym c.is_err.ensures.value ∙ c.if-is_err.false) c.append.ensures.beat in
    omega (arith, was, more)

-- an append that failed leaves what was there, too
pub invariant_of-self-then-is_err : goal.invariant_of-self-then-is_err
invariant_of-self-then-is_err g c =
    let d = c.self.inside in
    let i = c.self.invariant in
    let first = g.J.Naming.first in
    let moment = g.D.Device.moment in
    let left_since = g.D.Device.left_since in
    let head = g.J.Storing.head in
    let stored = g.J.Storing.stored in
    let k = i.1 c.if-self.false in
    let run = written_front g.D.Device.seen g.D.Device.may_leave head stored first moment left_since d.witness d.count
    d.batch.items d.log k i.2 d.log.device c.append.new.self.device
    (subst (λ (l : List Entry). LeavesOnly moment left_since d.log.device c.append.new.self.device
    (IsBeforeOrAfter head (stored ++ k.records) l)) c.as_slice.ensures.value
    (c.append.ensures.any_moment head (stored ++ k.records) k.settled)) in (
      i.0,
      λ b. absurd (let e : true ≡ false = b in cc),
      i.2,
      lives_failed moment left_since g.D.Device.may_leave head stored first g.J.Storing.opened d.witness d.count
          d.log.device c.append.new.self.device (g.met.D.Device.counts_now c.append.new.self.device) i.3 run,
      promises_after moment left_since head stored first d.witness d.count d.count d.log.device
          c.append.new.self.device (omega arith) run d.keeper.promises i.4,
      λ b. absurd (let e : true ≡ false = b in cc),
      i.6,
      i.7,
      λ b. absurd (let e : true ≡ false = b in cc),
      λ b. absurd (let e : true ≡ false = b in cc),
    )

pub returns-then-is_err-clause-any_moment : goal.returns-then-is_err-clause-any_moment
returns-then-is_err-clause-any_moment g c =
    let d = c.self.inside in
    let i = c.self.invariant in
    let first = g.J.Naming.first in
    let moment = g.D.Device.moment in
    let left_since = g.D.Device.left_since in
    let head = g.J.Storing.head in
    let stored = g.J.Storing.stored in
    let k = i.1 c.if-self.false in
    subst (λ (v : DiskView g.row.A.Denot g.row.D.Denot). LeavesOnly moment left_since v.device
    c.append.new.self.device (IsFront head stored first v.history v.count)) c.self.view_is
    (written_front g.D.Device.seen g.D.Device.may_leave head stored first moment left_since d.witness d.count
    d.batch.items d.log k i.2 d.log.device c.append.new.self.device
    (subst (λ (l : List Entry). LeavesOnly moment left_since d.log.device c.append.new.self.device
    (IsBeforeOrAfter head (stored ++ k.records) l)) c.as_slice.ensures.value
    (c.append.ensures.any_moment head (stored ++ k.records) k.settled)))

pub returns-clause-any_moment : goal.returns-clause-any_moment
returns-clause-any_moment g c =
    let d = c.self.inside in
    let i = c.self.invariant in
    let first = g.J.Naming.first in
    let moment = g.D.Device.moment in
    let left_since = g.D.Device.left_since in
    let head = g.J.Storing.head in
    let stored = g.J.Storing.stored in
    let k = i.1 c.if-self.false in
    subst (λ (v : DiskView g.row.A.Denot g.row.D.Denot). LeavesOnly moment left_since v.device
    c.append.new.self.device (IsFront head stored first v.history v.count)) c.self.view_is
    (written_front g.D.Device.seen g.D.Device.may_leave head stored first moment left_since d.witness d.count
    d.batch.items d.log k i.2 d.log.device c.append.new.self.device
    (subst (λ (l : List Entry). LeavesOnly moment left_since d.log.device c.append.new.self.device
    (IsBeforeOrAfter head (stored ++ k.records) l)) c.as_slice.ensures.value
    (c.append.ensures.any_moment head (stored ++ k.records) k.settled)))

-- one that went well leaves the batch besides
pub invariant_of-self-2 : goal.invariant_of-self-2
invariant_of-self-2 g c =
    let d = c.self.inside in
    let i = c.self.invariant in
    let first = g.J.Naming.first in
    let seen = g.D.Device.seen in
    let may_leave = g.D.Device.may_leave in
    let moment = g.D.Device.moment in
    let left_since = g.D.Device.left_since in
    let head = g.J.Storing.head in
    let stored = g.J.Storing.stored in
    let k = i.1 c.if-self.false in
    let ack = went_well c.append.result (sym c.is_err.ensures.value ∙ c.if-is_err.false)
    (c.append.ensures.acknowledged head (stored ++ k.records) k.settled) in
    let settled = subst (λ (l : List Entry). IsSettled seen may_leave head ((stored ++ k.records) ++ l)
    c.append.new.self) c.as_slice.ensures.value ack in
    let ok = d.batch.ok in
    let more : d.count + length d.batch.items ≡ d.count + c.len.result = omega (arith, c.len.ensures, ok) in
    let keeps = subst (λ (n : ℕ). KeepsRecords seen may_leave head stored first d.witness n c.append.new.self) more
    (keeps_more seen may_leave head stored first d.witness d.count d.batch.items d.log c.append.new.self k settled
    i.2) in
    let run = written_front seen may_leave head stored first moment left_since d.witness d.count d.batch.items d.log
    k i.2 d.log.device c.append.new.self.device
    (subst (λ (l : List Entry). LeavesOnly moment left_since d.log.device c.append.new.self.device
    (IsBeforeOrAfter head (stored ++ k.records) l)) c.as_slice.ensures.value
    (c.append.ensures.any_moment head (stored ++ k.records) k.settled)) in
    let now = c.append.new.self.device in
    let count : ℕ = d.count + c.len.result in
    let beats = g.D.Device.beats in
    let more_beats : beats d.log.device < beats now =
    went_well c.append.result (sym c.is_err.ensures.value ∙ c.if-is_err.false) c.append.ensures.beat in
    let known = ap (λ (v : KeeperView). v.beats) c.raise.ensures in
    let begun = ap (λ (v : KeeperView). v.begun) c.raise.ensures in
    let one : Promise = record { count = count; moment = moment now; write = d.begun; beats = beats now } in
    let raised : c.raise.new.keeper.promises ≡ d.keeper.promises ++ one ∷ [] =
    ap (λ (v : KeeperView). v.promises) c.raise.ensures
    ∙ ap (λ (n : ℕ). one_more d.keeper.promises count (moment now) n (beats now)) (sym i.7) in
    let Kept : Promise → Type 0 = IsKeptSince moment left_since head stored first d.witness count now in
    let front = kept_front seen may_leave head stored first c.records_are_read_back.ensures d.witness count
    c.append.new.self keeps in (
      i.0,
      λ b. keeps,
      subst (λ (l : List Entry). AreRecordsFrom first d.witness (d.count + c.len.result) l)
          (sym c.clear.ensures.items) tt,
      lives_after moment left_since may_leave head stored first g.J.Storing.opened d.witness d.count
          (d.count + c.len.result) d.log.device c.append.new.self.device i.3 run
          front,
      All-same Kept c.raise.new.keeper.promises (d.keeper.promises ++ one ∷ []) raised
          (All-push Kept d.keeper.promises one
          (promises_after moment left_since head stored first d.witness d.count count d.log.device now (omega arith)
          run d.keeper.promises i.4)
          (promise_now moment left_since head stored first may_leave d.witness count d.begun (beats now) now
          (g.met.D.Device.only_now now) front)),
      λ b. subst (λ (l : List Promise). Contains l one) (sym raised) (Contains-push d.keeper.promises one),
      subst (λ (l : List Entry). BATCH_BYTES ≡ BATCH_BYTES - batch_bytes l) (sym c.clear.ensures.items) refl,
      i.7 ∙ sym begun,
      λ b some. let was = i.8 c.if-self.false (omega (arith, begun, some)) in omega (arith, known, was, more_beats),
      λ b. said_with d.keeper.promises c.raise.new.keeper.promises one (beats d.log.device) (beats now)
          (omega (arith, more_beats)) refl raised (i.9 c.if-self.false),
    )

pub append-requires-clause-settled : goal.append-requires-clause-settled
append-requires-clause-settled g c =
    let k = c.self.invariant.1 c.if-self.false in
    (g.J.Storing.head, g.J.Storing.stored ++ k.records, k.settled)

pub returns-then-self-clause-written : goal.returns-then-self-clause-written
returns-then-self-clause-written g c =
    let d = c.self.inside in
    let broken = ap (λ (v : DiskView g.row.A.Denot g.row.D.Denot). v.is_broken) c.self.view_is in
    let batch = ap (λ (v : DiskView g.row.A.Denot g.row.D.Denot). v.batch) c.self.view_is in
    elim c.then-self.branch [
      | then-self-via-then-self w ↦ λ b. absurd (off (sym w.if-self.true ∙ (broken ∙ b)))
      | then-self-via-else-self+then-is_empty w ↦ λ b.
          none_more c.args.self.now.count c.args.self.now.batch d.batch.items (sym batch) (vec_len d.batch) d.batch.ok.0
          (sym w.is_empty.ensures ∙ w.if-is_empty.true)
    ]

pub returns-then-self-clause-added : goal.returns-then-self-clause-added
returns-then-self-clause-added g c = λ records settled b.
    let none = (returns-then-self-clause-written g c b).1 in
    subst (λ (l : List Entry). IsSettled g.D.Device.seen g.D.Device.may_leave g.J.Storing.head l c.args.self.now.log)
    (sym (ap (λ (l : List Entry). records ++ l) none ∙ append-nil records)) settled

pub returns-then-self-clause-any_moment : goal.returns-then-self-clause-any_moment
returns-then-self-clause-any_moment g c =
    let d = c.self.inside in
    let moment = g.D.Device.moment in
    let left_since = g.D.Device.left_since in
    let head = g.J.Storing.head in
    let stored = g.J.Storing.stored in
    let first = g.J.Naming.first in
    subst (λ (v : DiskView g.row.A.Denot g.row.D.Denot). LeavesOnly moment left_since v.device v.device
    (IsFront head stored first v.history v.count)) c.self.view_is
    (still_front moment left_since g.D.Device.may_leave head stored first g.J.Storing.opened d.witness d.count
    d.log.device (g.met.D.Device.only_now d.log.device) c.self.invariant.3)

pub returns-then-self-ge-MOST-clause-any_moment : goal.returns-then-self-ge-MOST-clause-any_moment
returns-then-self-ge-MOST-clause-any_moment g c =
    let d = c.self.inside in
    let moment = g.D.Device.moment in
    let left_since = g.D.Device.left_since in
    let head = g.J.Storing.head in
    let stored = g.J.Storing.stored in
    let first = g.J.Naming.first in
    subst (λ (v : DiskView g.row.A.Denot g.row.D.Denot). LeavesOnly moment left_since v.device d.log.device
    (IsFront head stored first v.history v.count)) c.self.view_is
    (still_front moment left_since g.D.Device.may_leave head stored first g.J.Storing.opened d.witness d.count
    d.log.device (g.met.D.Device.only_now d.log.device) c.self.invariant.3)

pub returns-clause-added : goal.returns-clause-added
returns-clause-added g c = λ records settled b.
    let seen = g.D.Device.seen in
    let may_leave = g.D.Device.may_leave in
    let head = g.J.Storing.head in
    let here = subst (λ (v : DiskView g.row.A.Denot g.row.D.Denot). IsSettled seen may_leave head records v.log)
    (sym c.self.view_is) settled in
    let ack = went_well c.append.result (sym c.is_err.ensures.value ∙ c.if-is_err.false)
    (c.append.ensures.acknowledged head records here) in
    subst (λ (l : List Entry). IsSettled seen may_leave head (records ++ l) c.append.new.self)
    (c.as_slice.ensures.value ∙ ap (λ (v : DiskView g.row.A.Denot g.row.D.Denot). v.batch) c.self.view_is) ack

pub returns-then-self-clause-beat : goal.returns-then-self-clause-beat
returns-then-self-clause-beat g c = λ some b. absurd (some (returns-then-self-clause-written g c b).1)

pub returns-then-self-clause-ended : goal.returns-then-self-clause-ended
returns-then-self-clause-ended g c = λ some b. absurd (some (returns-then-self-clause-written g c b).1)

pub returns-clause-beat : goal.returns-clause-beat
returns-clause-beat g c = λ some b.
    let beats = g.D.Device.beats in
    subst (λ (v : DiskView g.row.A.Denot g.row.D.Denot). beats v.device < beats c.append.new.self.device)
    c.self.view_is
    (went_well c.append.result (sym c.is_err.ensures.value ∙ c.if-is_err.false) c.append.ensures.beat)
