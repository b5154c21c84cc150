use Rattle.std.proofs.Common.{◌∙◌}
use Rattle.hg_queue.proofs.Moves.{takes_as, counts_empty_as}
use Rattle.hg_queue.proofs.Steps.{looks}
use Rattle.hg_queue.proofs.queue.take_told.Goals as goal

pub pop_as-requires-clause-rule : goal.pop_as-requires-clause-rule
pop_as-requires-clause-rule g c = (takes_as _ _ _ _ c.requires.queue.1, looks _ _)

pub another-requires-clause-rule : goal.another-requires-clause-rule
another-requires-clause-rule g c = counts_empty_as _ _ _ _ (c.in-None.ensures.rule.0 ∙ c.requires.queue.1)
