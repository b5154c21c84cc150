use Rattle.std.proofs.Common.{◌∙◌, ap}
use Rattle.hg_queue.specs.History.{is_part}
use Rattle.hg_queue.proofs.Lists.{mark_not_part}
use Rattle.hg_queue.proofs.Moves.{marks_as, counts_full_as}
use Rattle.hg_queue.proofs.Steps.{looks}
use Rattle.hg_queue.proofs.queue.PartQueue.try_mark.Goals as goal

pub push_as-requires-clause-rule : goal.push_as-requires-clause-rule
push_as-requires-clause-rule g c =
    let p = c.requires in (
      marks_as _ _ _ _ _ p.is.role (record { room = p.room; push = p.is.push; index = p.is.parts })
          (ap is_part c.from.ensures ∙ mark_not_part _ c.args.mark),
      looks _ _,
    )

pub another-requires-clause-rule : goal.another-requires-clause-rule
another-requires-clause-rule g c = counts_full_as _ _ _ (c.in-Err.ensures.rule.1 ∙ c.requires.is.role)
