use Rattle.std.proofs.Common.{rules, ◌+◌, ap, ◌∙◌}
use Rattle.hg_commit.specs.Promises.{KeeperView}
use Rattle.hg_commit.proofs.Counting.{writes}
use Rattle.hg_commit.proofs.promises.begin_at.Goals as goal

pub store-requires : goal.store-requires
store-requires g c = (
  search rules,
  search rules,
  writes _ _ _ _ _ c.keeper.invariant.0 c.keeper.invariant.1.3
      (ap (λ (v : KeeperView). v.begun + 1) c.keeper.view_is ∙ c.requires.next),
)
