use Rattle.std.proofs.Common.{◌≡◌, ◌<◌, ◌≤◌, ◌++◌, ◌∷◌, [], false, true, ℕ, List, ap, refl, sym, subst, ◌∙◌, arith}
use Rattle.hg_store.specs.Device.{LeavesOnly}
use Rattle.std.specs.Prelude.{Contains}
use Rattle.std.proofs.lemmas.List.Elements.{All-push, All-same, All-weaker, Contains-push}
use Rattle.hg_commit.specs.Lives.{IsFront, IsKeptSince}
use Rattle.hg_commit.specs.Promises.{KeeperView, Promise}
use Rattle.hg_commit.specs.code.Tallies.{one_more}
use Rattle.hg_commit.specs.Locks.{DiskView}
use Rattle.hg_commit.proofs.Keeping.{keeps_same}
use Rattle.hg_commit.proofs.Beats.{said_with}
use Rattle.hg_commit.proofs.Lists.{went_well}
use Rattle.hg_commit.proofs.Living.{beat_front, kept_front, lives_after, lives_failed, promise_now, promises_after, still_front}
use Rattle.hg_commit.proofs.disk.Disk.beat.Goals as goal

pub beat-requires : goal.beat-requires
beat-requires g c =
    let k = c.self.invariant.1 c.if-self.false in
    (g.J.Storing.head, g.J.Storing.stored ++ k.records, k.settled)

-- no promise counts more than the records that are there
pub raise-requires-clause-most : goal.raise-requires-clause-most
raise-requires-clause-most g c =
    let d = c.self.inside in
    All-weaker (IsKeptSince g.D.Device.moment g.D.Device.left_since g.J.Storing.head g.J.Storing.stored
    g.J.Naming.first d.witness d.count d.log.device) (λ p. p.count ≤ d.count) (λ p k. k.few) d.keeper.promises
    c.self.invariant.4

-- it has had a beat since the last write began
pub raise-requires-clause-beat : goal.raise-requires-clause-beat
raise-requires-clause-beat g c = λ some.
    let beats = g.D.Device.beats in
    let was = c.self.invariant.8 c.if-self.false some in
    let more : beats c.self.inside.log.device < beats c.beat.new.self.device =
    went_well c.beat.result (sym c.is_err.ensures.value ∙ c.if-is_err.false) c.beat.ensures.beat in
    omega (arith, was, more)

-- a beat that failed leaves what was there, too
pub invariant_of-self : goal.invariant_of-self
invariant_of-self g c =
    let d = c.self.inside in
    let i = c.self.invariant in
    let first = g.J.Naming.first in
    let moment = g.D.Device.moment in
    let left_since = g.D.Device.left_since in
    let head = g.J.Storing.head in
    let stored = g.J.Storing.stored in
    let now = c.beat.new.self.device in
    let k = i.1 c.if-self.false in
    let run = beat_front g.D.Device.seen g.D.Device.may_leave head stored first moment left_since d.witness d.count
    d.log k d.log.device now (c.beat.ensures.any_moment head (stored ++ k.records) k.settled) in (
      i.0,
      λ b. absurd (let e : true ≡ false = b in cc),
      i.2,
      lives_failed moment left_since g.D.Device.may_leave head stored first g.J.Storing.opened d.witness d.count
          d.log.device now (g.met.D.Device.counts_now now) i.3 run,
      promises_after moment left_since head stored first d.witness d.count d.count d.log.device now (omega arith) run
          d.keeper.promises i.4,
      λ b. absurd (let e : true ≡ false = b in cc),
      i.6,
      i.7,
      λ b. absurd (let e : true ≡ false = b in cc),
      λ b. absurd (let e : true ≡ false = b in cc),
    )

-- one that went well leaves all as it was, and promises it by now
pub invariant_of-self-2 : goal.invariant_of-self-2
invariant_of-self-2 g c =
    let d = c.self.inside in
    let i = c.self.invariant in
    let first = g.J.Naming.first in
    let seen = g.D.Device.seen in
    let may_leave = g.D.Device.may_leave in
    let moment = g.D.Device.moment in
    let left_since = g.D.Device.left_since in
    let head = g.J.Storing.head in
    let stored = g.J.Storing.stored in
    let now = c.beat.new.self.device in
    let k = i.1 c.if-self.false in
    let keeps = keeps_same seen may_leave head stored first d.witness d.count d.log c.beat.new.self k
    (went_well c.beat.result (sym c.is_err.ensures.value ∙ c.if-is_err.false)
    (c.beat.ensures.same head (stored ++ k.records) k.settled)) in
    let run = beat_front seen may_leave head stored first moment left_since d.witness d.count d.log k d.log.device now
    (c.beat.ensures.any_moment head (stored ++ k.records) k.settled) in
    let beats = g.D.Device.beats in
    let more : beats d.log.device < beats now =
    went_well c.beat.result (sym c.is_err.ensures.value ∙ c.if-is_err.false) c.beat.ensures.beat in
    let known = ap (λ (v : KeeperView). v.beats) c.raise.ensures in
    let begun = ap (λ (v : KeeperView). v.begun) c.raise.ensures in
    let one : Promise = record { count = d.count; moment = moment now; write = d.begun; beats = beats now } in
    let raised : c.raise.new.keeper.promises ≡ d.keeper.promises ++ one ∷ [] =
    ap (λ (v : KeeperView). v.promises) c.raise.ensures
    ∙ ap (λ (n : ℕ). one_more d.keeper.promises d.count (moment now) n (beats now)) (sym i.7) in
    let Kept : Promise → Type 0 = IsKeptSince moment left_since head stored first d.witness d.count now in
    let front = kept_front seen may_leave head stored first c.records_are_read_back.ensures d.witness d.count
    c.beat.new.self keeps in (
      i.0,
      λ b. keeps,
      i.2,
      lives_after moment left_since may_leave head stored first g.J.Storing.opened d.witness d.count d.count
          d.log.device now i.3 run front,
      All-same Kept c.raise.new.keeper.promises (d.keeper.promises ++ one ∷ []) raised
          (All-push Kept d.keeper.promises one
          (promises_after moment left_since head stored first d.witness d.count d.count d.log.device now (omega arith)
          run d.keeper.promises i.4)
          (promise_now moment left_since head stored first may_leave d.witness d.count d.begun (beats now) now
          (g.met.D.Device.only_now now) front)),
      λ b. subst (λ (l : List Promise). Contains l one) (sym raised) (Contains-push d.keeper.promises one),
      i.6,
      i.7 ∙ sym begun,
      λ b some. let was = i.8 c.if-self.false (omega (arith, begun, some)) in omega (arith, known, was, more),
      λ b. said_with d.keeper.promises c.raise.new.keeper.promises one (beats d.log.device) (beats now)
          (omega (arith, more)) refl raised (i.9 c.if-self.false),
    )

pub returns-then-is_err-clause-any_moment : goal.returns-then-is_err-clause-any_moment
returns-then-is_err-clause-any_moment g c =
    let d = c.self.inside in
    let moment = g.D.Device.moment in
    let left_since = g.D.Device.left_since in
    let head = g.J.Storing.head in
    let stored = g.J.Storing.stored in
    let first = g.J.Naming.first in
    let k = c.self.invariant.1 c.if-self.false in
    subst (λ (v : DiskView g.row.A.Denot g.row.D.Denot). LeavesOnly moment left_since v.device
    c.beat.new.self.device (IsFront head stored first v.history v.count)) c.self.view_is
    (beat_front g.D.Device.seen g.D.Device.may_leave head stored first moment left_since d.witness d.count d.log k
    d.log.device c.beat.new.self.device (c.beat.ensures.any_moment head (stored ++ k.records) k.settled))

pub returns-clause-any_moment : goal.returns-clause-any_moment
returns-clause-any_moment g c =
    let d = c.self.inside in
    let moment = g.D.Device.moment in
    let left_since = g.D.Device.left_since in
    let head = g.J.Storing.head in
    let stored = g.J.Storing.stored in
    let first = g.J.Naming.first in
    let k = c.self.invariant.1 c.if-self.false in
    subst (λ (v : DiskView g.row.A.Denot g.row.D.Denot). LeavesOnly moment left_since v.device
    c.beat.new.self.device (IsFront head stored first v.history v.count)) c.self.view_is
    (beat_front g.D.Device.seen g.D.Device.may_leave head stored first moment left_since d.witness d.count d.log k
    d.log.device c.beat.new.self.device (c.beat.ensures.any_moment head (stored ++ k.records) k.settled))

pub returns-then-self-clause-any_moment : goal.returns-then-self-clause-any_moment
returns-then-self-clause-any_moment g c =
    let d = c.self.inside in
    let moment = g.D.Device.moment in
    let left_since = g.D.Device.left_since in
    let head = g.J.Storing.head in
    let stored = g.J.Storing.stored in
    let first = g.J.Naming.first in
    subst (λ (v : DiskView g.row.A.Denot g.row.D.Denot). LeavesOnly moment left_since v.device v.device
    (IsFront head stored first v.history v.count)) c.self.view_is
    (still_front moment left_since g.D.Device.may_leave head stored first g.J.Storing.opened d.witness d.count
    d.log.device (g.met.D.Device.only_now d.log.device) c.self.invariant.3)

pub returns-clause-beat : goal.returns-clause-beat
returns-clause-beat g c = λ b.
    let beats = g.D.Device.beats in
    subst (λ (v : DiskView g.row.A.Denot g.row.D.Denot). beats v.device < beats c.beat.new.self.device) c.self.view_is
    (went_well c.beat.result (sym c.is_err.ensures.value ∙ c.if-is_err.false) c.beat.ensures.beat)
