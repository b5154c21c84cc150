use Rattle.std.proofs.Common.{rules, ℕ, ◌≤◌, ◌<◌, sym, subst}
use Rattle.hg_commit.specs.Promises.{KeeperView}
use Rattle.hg_commit.specs.code.Tallies.{CountAtMost}
use Rattle.hg_commit.proofs.Counting.{raises}
use Rattle.hg_commit.proofs.promises.raise_at.Goals as goal

pub store-requires : goal.store-requires
store-requires g c = (
  search rules,
  search rules,
  raises _ _ _ _ _ _ c.keeper.invariant.0 c.keeper.invariant.1.3
      (subst (λ (v : KeeperView). CountAtMost c.args.count v.promises) (sym c.keeper.view_is) c.requires.most)
      (subst (λ (v : KeeperView). 1 ≤ v.begun → v.beats < g.M.Moment.beats) (sym c.keeper.view_is)
      (subst (λ (n : ℕ). 1 ≤ c.args.keeper.now.begun → c.args.keeper.now.beats < n) (sym c.requires.beats)
      c.requires.beat)),
)
