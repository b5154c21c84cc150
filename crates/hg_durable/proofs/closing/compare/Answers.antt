use Rattle.std.proofs.Common.{ap, refl, subst, sym}
use Rattle.std.specs.List.{Contains}
use Rattle.std.proofs.lemmas.List.Elements.{All-same}
use mathlib.Core.List.{IsPrefix}
use Rattle.hg_commit.specs.Clients.{promised}
use Rattle.hg_commit.specs.Orders.{ReceiptView}
use Rattle.hg_durable.proofs.closing.compare.Goals as goal

pub returns-in-Some-clause-promised : goal.returns-in-Some-clause-promised
returns-in-Some-clause-promised g c =
    All-same (Contains c.args.tally.now.promises) (promised c.args.receipt).promises c.in-Some.receipt.promises
    (ap (λ r. (promised r).promises) c.in-Some.is) c.compare.ensures.promised

pub returns-in-Some-clause-seen : goal.returns-in-Some-clause-seen
returns-in-Some-clause-seen g c =
    subst (λ (r : ReceiptView). IsPrefix r.order c.compare.new.self.order) (sym (ap promised c.in-Some.is))
    c.compare.ensures.seen

pub returns-in_default-clause-seen : goal.returns-in_default-clause-seen
returns-in_default-clause-seen g c =
    subst (λ (r : ReceiptView). IsPrefix r.order c.args.tally.now.order) (sym (ap promised c.in_default.is))
    (c.args.tally.now.order, refl)
