use Rattle.std.proofs.Common.{rules, ◌++◌, List, ap, subst, ◌∙◌}
use Rattle.atomic_table.specs.Table.{Me}
use Rattle.hg_commit.specs.declared.known.Known.{Known}
use Rattle.hg_commit.specs.Orders.{HasGrown, ReceiptView}
use Rattle.hg_commit.specs.Promises.{Promise}
use Rattle.hg_commit.specs.code.Tallies.{receipt_of, Sees}
use Rattle.hg_commit.proofs.Counting.{sees, unites}
use Rattle.hg_commit.proofs.Seats.{saw_among, saw_numbered, saw_spent, united_grows, united_promises}
use Rattle.hg_commit.proofs.promises.OpenTally.unite.Goals as goal

pub join_seat-requires : goal.join_seat-requires
join_seat-requires g c = (search rules, search rules, search rules, search rules, unites _ _ _ _)

pub load-requires : goal.load-requires
load-requires g c =
    let joined = ap (λ (m : Me (Unit {0}) Known). m.0.is_spent) c.join_seat.ensures.2 in
    (search rules, search rules, sees _ _ _ (joined ∙ c.receipt.invariant.1.3))

pub invariant_of-result : goal.invariant_of-result
invariant_of-result g c =
    let both = c.join_seat.new.seat.me.0 in
    let now = c.load.new.seat.me.0 in
    let i = c.receipt.invariant.1 in
    let joined = c.join_seat.ensures.2 in
    let s = c.load.ensures.2.0 in (
      saw_among both now s,
      (
        c.load.ensures.0 ∙ (c.join_seat.ensures.0 ∙ i.0),
        i.1,
        c.load.ensures.2.1 ∙ (ap (λ (m : Me (Unit {0}) Known). m.1) joined ∙ i.2),
        saw_spent both now s ∙ (ap (λ (m : Me (Unit {0}) Known). m.0.is_spent) joined ∙ i.3),
      ),
    )

pub returns-clause-both : goal.returns-clause-both
returns-clause-both g c =
    let was = c.receipt.inside.seat.me.0 in
    let grant = c.grant.inside.seat.me.0 in
    let now = c.load.new.seat.me.0 in
    let joined = ap (λ (m : Me (Unit {0}) Known). m.0) c.join_seat.ensures.2 in
    let s = subst (λ (u : Known). Sees u now) joined c.load.ensures.2.0 in
    united_promises was grant now s
    ∙ (ap (λ (r : ReceiptView). r.promises ++ grant.promises) c.receipt.view_is
    ∙ ap (λ (l : List Promise). c.args.receipt.promises ++ l) c.grant.view_is)

pub returns-clause-grows : goal.returns-clause-grows
returns-clause-grows g c =
    let was = c.receipt.inside.seat.me.0 in
    let grant = c.grant.inside.seat.me.0 in
    let now = c.load.new.seat.me.0 in
    let joined = ap (λ (m : Me (Unit {0}) Known). m.0) c.join_seat.ensures.2 in
    let s = subst (λ (u : Known). Sees u now) joined c.load.ensures.2.0 in
    subst (λ (r : ReceiptView). HasGrown r (receipt_of now)) c.receipt.view_is (united_grows was grant now s)

pub returns-clause-came : goal.returns-clause-came
returns-clause-came g c =
    let joined = ap (λ (m : Me (Unit {0}) Known). m.0) c.join_seat.ensures.2 in
    ap (λ (v : Known). v.came) c.load.ensures.2.0.is
    ∙ (ap (λ (v : Known). v.came) joined ∙ ap (λ (r : ReceiptView). r.came) c.receipt.view_is)

pub returns-clause-seen : goal.returns-clause-seen
returns-clause-seen g c = saw_among c.join_seat.new.seat.me.0 c.load.new.seat.me.0 c.load.ensures.2.0

pub returns-clause-asked : goal.returns-clause-asked
returns-clause-asked g c =
    let joined = ap (λ (m : Me (Unit {0}) Known). m.0) c.join_seat.ensures.2 in
    ap (λ (v : Known). v.asked) c.load.ensures.2.0.is
    ∙ (ap (λ (v : Known). v.asked) joined ∙ ap (λ (r : ReceiptView). r.asked) c.receipt.view_is)

pub returns-clause-numbered : goal.returns-clause-numbered
returns-clause-numbered g c = saw_numbered c.join_seat.new.seat.me.0 c.load.new.seat.me.0 c.load.ensures.2.0
