use Rattle.std.proofs.Common.{rules, ◌≡◌, true, List, ap, subst, sym, ◌∙◌}
use Rattle.atomic_table.specs.Table.{Me}
use Rattle.hg_commit.specs.declared.known.Known.{Known}
use Rattle.hg_commit.specs.Orders.{promises_in, ReceiptView}
use Rattle.hg_commit.specs.Promises.{Promise}
use Rattle.hg_commit.specs.code.Tallies.{AreAmong}
use Rattle.hg_commit.proofs.Counting.{hears, sees, shows}
use Rattle.hg_commit.proofs.promises.Promises.compare.Goals as goal

pub split_seat-copy-requires : goal.split_seat-copy-requires
split_seat-copy-requires g c = (search rules, search rules, shows _ _)

pub join_seat-requires : goal.join_seat-requires
join_seat-requires g c = (search rules, search rules, search rules, search rules, hears _ _ _ _)

pub load-requires : goal.load-requires
load-requires g c =
    let joined = ap (λ (m : Me (Unit {0}) Known). m.0.is_spent) c.join_seat.ensures.2 in
    (search rules, search rules, sees _ _ _ (joined ∙ c.self.invariant.0.1.3))

pub invariant_of-receipt : goal.invariant_of-receipt
invariant_of-receipt g c =
    let i = c.receipt.invariant in
    let same = sym c.split_seat-copy.ensures.2 in (
      subst (λ (m : Me (Unit {0}) Known). AreAmong m.0.promises (promises_in m.0.order)) same i.0,
      (
        c.split_seat-copy.ensures.0 ∙ i.1.0,
        i.1.1,
        subst (λ (m : Me (Unit {0}) Known). m.1 ≡ c.receipt.inside.seat.me.1) same (λ k. c.receipt.inside.seat.me.1) ∙ i.1.2,
        ap (λ (m : Me (Unit {0}) Known). m.0.is_spent) (sym same) ∙ i.1.3,
      ),
    )

pub returns-clause-promised : goal.returns-clause-promised
returns-clause-promised g c =
    let all = c.self.inside.keeper.me.0.promises in
    let joined = ap (λ (m : Me (Unit {0}) Known). m.0) c.join_seat.ensures.2 in
    let copied = ap (λ (m : Me (Unit {0}) Known). m.0) c.split_seat-copy.ensures.4 in
    let heard = subst (λ (u : Known). u.is_keeper ≡ true → AreAmong u.heard u.promises) joined c.load.ensures.2.0.heard in
    let known = subst (λ (u : Known). AreAmong u.promises all) copied (heard c.self.invariant.0.0) in
    let counted = subst (λ (l : List Promise). AreAmong c.receipt.inside.seat.me.0.promises l)
    (ap (λ t. t.promises) c.self.view_is) known in
    subst (λ (r : ReceiptView). AreAmong r.promises c.args.self.now.promises) c.receipt.view_is counted
