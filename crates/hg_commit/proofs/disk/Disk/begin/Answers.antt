use Rattle.std.proofs.Common.{◌≡◌, ◌+◌, ℕ, List, ap, arith, subst, sym, ◌∙◌}
use Rattle.std.specs.Prelude.{All, Contains}
use Rattle.hg_commit.specs.Lives.{IsKeptSince}
use Rattle.hg_commit.specs.Promises.{KeeperView, Promise, SayAtMost}
use Rattle.hg_commit.proofs.disk.Disk.begin.Goals as goal

pub begin_write-requires : goal.begin_write-requires
begin_write-requires g c = ap (λ (n : ℕ). n + 1) (sym c.self.invariant.7) ∙ sym c.in-Some.ensures.1

pub invariant_of-self : goal.invariant_of-self
invariant_of-self g c =
    let d = c.self.inside in
    let i = c.self.invariant in
    let same : c.begin_write.new.keeper.promises ≡ d.keeper.promises =
    ap (λ (v : KeeperView). v.promises) c.begin_write.ensures in
    let beats : ℕ = g.D.Device.beats d.log.device in
    let begins = ap (λ (v : KeeperView). v.beats) c.begin_write.ensures in
    let one : Promise = record {
      count = d.count;
      moment = g.D.Device.moment d.log.device;
      write = d.ended;
      beats = beats;
    } in (
      i.0,
      i.1,
      i.2,
      i.3,
      subst (λ (l : List Promise). All (IsKeptSince g.D.Device.moment g.D.Device.left_since g.J.Storing.head
          g.J.Storing.stored g.J.Naming.first d.witness d.count d.log.device) l) (sym same) i.4,
      λ b. subst (λ (l : List Promise). Contains l one) (sym same) (i.5 b),
      i.6,
      sym (ap (λ (v : KeeperView). v.begun) c.begin_write.ensures),
      λ b some. omega (arith, begins),
      λ b. subst (λ (l : List Promise). SayAtMost beats l) (sym same) (i.9 b),
    )
