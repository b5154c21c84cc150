use Rattle.std.proofs.Common.{◌≡◌, ◌≤◌, ◌-◌, ℕ, List, [], ◌∷◌, refl, arith, sym, subst}
use Rattle.std.specs.Prelude.{Contains}
use Rattle.std.proofs.lemmas.List.Elements.{All-cons, All-nil, All-same, Contains-push}
use Rattle.hg_commit.specs.Handing.{batch_bytes}
use Rattle.hg_commit.specs.Records.{AreRecordsFrom}
use Rattle.hg_commit.specs.declared.disk.TheConstants.{BATCH_BYTES}
use Rattle.hg_commit.proofs.Keeping.{nothing}
use Rattle.hg_commit.specs.Lives.{IsKeptSince}
use Rattle.hg_commit.specs.Promises.{Promise}
use Rattle.hg_commit.proofs.Living.{begins, kept_front, promise_now}
use Rattle.hg_commit.proofs.disk.Disk.new.Goals as goal
use Rattle.hg_store.specs.Entries.{Entry}

pub invariant_of-result : goal.invariant_of-result
invariant_of-result g c =
    let first = g.J.Naming.first in
    let seen = g.D.Device.seen in
    let may_leave = g.D.Device.may_leave in
    let head = g.J.Storing.head in
    let stored = g.J.Storing.stored in
    let log = c.args.log in
    let moment = g.D.Device.moment in
    let left_since = g.D.Device.left_since in
    let beats : ℕ = g.D.Device.beats log.device in
    let one : Promise = record { count = 0; moment = moment log.device; write = 0; beats = beats } in
    let all = c.requires.promised in
    let none = c.requires.begun in
    let Says : Promise → Type 0 = λ p. p.beats ≤ beats in
    let Kept : Promise → Type 0 = IsKeptSince moment left_since head stored first c.args.witness 0 log.device in
    let keeps = nothing seen may_leave head stored first c.args.witness log c.requires.settled in (
      c.requires.allowed,
      λ b. keeps,
      subst (λ (l : List Entry). AreRecordsFrom first c.args.witness 0 l) (sym c.in-Ok.ensures.items) tt,
      begins g.D.Device.moment g.D.Device.left_since may_leave head stored first g.J.Storing.opened c.args.witness
          log.device c.requires.opened (g.met.D.Device.only_now log.device)
          (kept_front seen may_leave head stored first c.records_are_read_back.ensures c.args.witness 0 log keeps),
      All-same Kept c.args.keeper.promises (one ∷ []) all
          (All-cons Kept one []
          (promise_now moment left_since head stored first may_leave c.args.witness 0 0 beats log.device
          (g.met.D.Device.only_now log.device)
          (kept_front seen may_leave head stored first c.records_are_read_back.ensures c.args.witness 0 log keeps))
          (All-nil Kept)),
      λ b. subst (λ (l : List Promise). Contains l one) (sym all) (Contains-push [] one),
      subst (λ (l : List Entry). BATCH_BYTES ≡ BATCH_BYTES - batch_bytes l) (sym c.in-Ok.ensures.items) refl,
      sym c.requires.begun,
      λ b some. absurd (omega (arith, none, some)),
      λ b. All-same Says c.args.keeper.promises (one ∷ []) all (All-cons Says one [] (omega arith) (All-nil Says)),
    )
