use Rattle.std.proofs.Common.{refl, ◌∙◌}
use Rattle.hg_queue.proofs.Moves.{puts_as, counts_full_as}
use Rattle.hg_queue.proofs.Steps.{looks}
use Rattle.hg_queue.proofs.queue.PartQueue.try_put.Goals as goal

pub push_as-requires-clause-rule : goal.push_as-requires-clause-rule
push_as-requires-clause-rule g c = let p = c.requires.putter in (
  puts_as _ _ _ _ _ p.is.role (record { room = p.room; push = p.is.push; index = p.is.parts }) refl,
  looks _ _,
)

pub another-requires-clause-rule : goal.another-requires-clause-rule
another-requires-clause-rule g c = counts_full_as _ _ _ (c.in-Err.ensures.rule.1 ∙ c.requires.putter.is.role)
