use Rattle.std.proofs.Common.{rules, subst, ◌∙◌}
use Rattle.hg_commit.specs.Orders.{Asks, ReceiptView}
use Rattle.hg_commit.specs.code.Tallies.{receipt_of}
use Rattle.hg_commit.proofs.Counting.{ask}
use Rattle.hg_commit.proofs.Seats.{asked_spent, asks_of}
use Rattle.hg_commit.proofs.promises.OpenTally.ask_again.Goals as goal

pub load-begun-requires : goal.load-begun-requires
load-begun-requires g c = (search rules, search rules, ask _ _ _ c.receipt.invariant.1.3)

pub invariant_of-receipt : goal.invariant_of-receipt
invariant_of-receipt g c =
    let was = c.receipt.inside.seat.me.0 in
    let now = c.load-begun.new.seat.me.0 in
    let i = c.receipt.invariant.1 in
    let t = c.load-begun.ensures.2.0 in (
      t.among,
      (
        c.load-begun.ensures.0 ∙ i.0,
        i.1,
        c.load-begun.ensures.2.1 ∙ i.2,
        asked_spent was now c.load-begun.result t ∙ i.3,
      ),
    )

pub returns : goal.returns
returns g c =
    let was = c.receipt.inside.seat.me.0 in
    let now = c.load-begun.new.seat.me.0 in
    subst (λ (r : ReceiptView). Asks r (receipt_of now) c.load-begun.result) c.receipt.view_is
    (asks_of was now c.load-begun.result c.load-begun.ensures.2.0)
