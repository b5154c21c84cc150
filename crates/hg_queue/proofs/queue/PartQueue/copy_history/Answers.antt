use Rattle.std.proofs.Common.{ap, ◌∙◌}
use Rattle.hg_queue.specs.code.Steps.{history_note}
use Rattle.hg_queue.proofs.Moves.{copies_as}
use Rattle.hg_queue.proofs.queue.PartQueue.copy_history.Goals as goal

pub absorb-requires-clause-rule : goal.absorb-requires-clause-rule
absorb-requires-clause-rule g c =
    copies_as _ _ _ _ _ _ c.requires.1.role (c.settle_seat-note.ensures.view.1
    ∙ ap (history_note c.args.taker.now.refused) c.requires.0.role)
