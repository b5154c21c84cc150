use Rattle.hg_queue.specs.History.{has}
use Rattle.std.proofs.Common.{ap, ◌∙◌, ℕ}
use Rattle.hg_queue.specs.Words.{taker_of}
use Rattle.crossbeam_queue.specs.Passes.{view}
use Rattle.hg_queue.proofs.Moves.{opens_as}
use Rattle.hg_queue.proofs.queue.open_seat.Goals as goal

pub another-requires-clause-rule : goal.another-requires-clause-rule
another-requires-clause-rule g c =
    opens_as _ _ _ _ c.requires.queue.1
    (ap (λ (n : ℕ). has n (taker_of (view c.args.seat.now)).noted) c.requires.number ∙ c.requires.free)
