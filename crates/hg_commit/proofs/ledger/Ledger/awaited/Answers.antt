use Rattle.hg_commit.proofs.Beats.{as_before, asks_grown, next_of}
use Rattle.hg_commit.proofs.ledger.Ledger.awaited.Goals as goal

pub returns-clause-grows : goal.returns-clause-grows
returns-clause-grows g c = asks_grown _ _ _ c.ask-begun.ensures.asks

pub returns-clause-came : goal.returns-clause-came
returns-clause-came g c = c.ask-begun.ensures.asks.came

pub returns-clause-asked : goal.returns-clause-asked
returns-clause-asked g c = λ with. next_of c.checked_add.result _ c.ask-begun.result _ _ c.checked_add.ensures
    c.ask-begun.ensures.asks

pub returns-then-not-self-clause-grows : goal.returns-then-not-self-clause-grows
returns-then-not-self-clause-grows g c = as_before _
