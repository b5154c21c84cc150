use Rattle.hg_commit.proofs.Beats.{grown_again}
use Rattle.hg_commit.proofs.ledger.Ledger.receipt.Goals as goal

pub returns-clause-grows : goal.returns-clause-grows
returns-clause-grows g c = grown_again _ _ _ c.awaited-awaited.ensures.grows c.await_receipt.ensures.grows

pub returns-clause-beat : goal.returns-clause-beat
returns-clause-beat g c = λ with. c.await_receipt.ensures.beat c.args.client.now.receipt
    (c.awaited-awaited.ensures.asked with)
