use Rattle.std.proofs.Common.{ℕ, List, Option, ap, arith, subst, sym, ◌∙◌}
use Rattle.std.specs.Prelude.{Contains}
use Rattle.std.proofs.lemmas.List.Elements.{Contains-append_right}
use Rattle.hg_commit.specs.Clients.{KeptSeen}
use Rattle.hg_commit.specs.Orders.{HasAskedFor, HasGrown, ReceiptView}
use Rattle.hg_commit.specs.Promises.{Promise}
use Rattle.hg_commit.proofs.Beats.{beat_of}
use Rattle.hg_commit.proofs.Covering.{covered_by}
use Rattle.hg_commit.proofs.ledger.Ledger.await_receipt.Goals as goal

pub returns-in-Ok-clause-covered : goal.returns-in-Ok-clause-covered
returns-in-Ok-clause-covered g c =
    covered_by g.D.Device.seen g.D.Device.may_leave g.D.Device.moment g.J.Storing.head g.J.Storing.stored
    g.J.Naming.first c.client.inside.client _ c.in-Ok.grant c.take_in.new.self c.args.rests
    (c.take_in.ensures.same ∙ c.await_records.ensures.same) c.take_in.ensures.both
    c.take_in.ensures.seen c.in-Ok.ensures.covered

pub returns-in-Ok-clause-beat : goal.returns-in-Ok-clause-beat
returns-in-Ok-clause-beat g c = λ before asked_for.
    let asked : ReceiptView = c.args.client.now.receipt in
    let k = subst (λ (w : Option ℕ). HasAskedFor before asked w) c.in-Some.is asked_for in
    let w = c.in-Ok.ensures.written in
    let now : ReceiptView = c.take_in.new.self.receipt in
    let view = ap (λ (v : KeptSeen g.row.A.Denot). v.receipt) c.client.view_is in
    let grows = subst (λ (r : ReceiptView). HasGrown r now) view c.take_in.ensures.grows in
    let number = k.1 in
    let late = w.written in
    beat_of before asked now k.0 c.args.rests w.promise k.2
    (c.take_in.ensures.asked ∙ ap (λ (r : ReceiptView). r.asked) view) grows.order c.take_in.ensures.numbered
    c.take_in.ensures.seen (subst (λ (l : List Promise). Contains l w.promise) (sym c.take_in.ensures.both)
    (Contains-append_right _ c.in-Ok.grant w.promise w.has)) (omega (arith, number, late)) w.counts
