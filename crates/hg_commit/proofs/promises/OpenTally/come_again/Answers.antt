use Rattle.std.proofs.Common.{rules, subst, ◌∙◌}
use Rattle.hg_commit.specs.Orders.{Comes, ReceiptView}
use Rattle.hg_commit.specs.code.Tallies.{receipt_of}
use Rattle.hg_commit.proofs.Counting.{come}
use Rattle.hg_commit.proofs.Seats.{came_spent, comes_of}
use Rattle.hg_commit.proofs.promises.OpenTally.come_again.Goals as goal

pub load-count-requires : goal.load-count-requires
load-count-requires g c = (search rules, search rules, come _ _ _ c.receipt.invariant.1.3)

pub invariant_of-receipt : goal.invariant_of-receipt
invariant_of-receipt g c =
    let was = c.receipt.inside.seat.me.0 in
    let now = c.load-count.new.seat.me.0 in
    let i = c.receipt.invariant.1 in
    let t = c.load-count.ensures.2.0 in (
      t.among,
      (
        c.load-count.ensures.0 ∙ i.0,
        i.1,
        c.load-count.ensures.2.1 ∙ i.2,
        came_spent was now c.load-count.result t ∙ i.3,
      ),
    )

pub returns : goal.returns
returns g c =
    let was = c.receipt.inside.seat.me.0 in
    let now = c.load-count.new.seat.me.0 in
    subst (λ (r : ReceiptView). Comes r (receipt_of now) c.load-count.result) c.receipt.view_is
    (comes_of was now c.load-count.result c.load-count.ensures.2.0)
