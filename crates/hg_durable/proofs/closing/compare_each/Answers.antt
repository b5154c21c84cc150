use Rattle.std.proofs.Common.{◌≡◌, [], ◌∷◌, ◌++◌, length, ap, sym, subst, ◌∙◌, append_assoc, arith}
use Rattle.std.specs.Prelude.{All}
use Rattle.std.specs.List.{Contains}
use mathlib.Core.List.{IsPrefix}
use Rattle.std.proofs.lemmas.List.Elements.{All-cons, All-same, All-weaker}
use Rattle.hg_commit.specs.Clients.{promised}
use Rattle.hg_commit.specs.Orders.{ReceiptView}
use Rattle.hg_commit.specs.Receipts.{TallyView}
use Rattle.hg_durable.proofs.Ends.{begins_on, empty_front, has_last, has_still, IsCompared}
use Rattle.hg_durable.proofs.closing.compare_each.Goals as goal

pub comparing-preserved : goal.comparing-preserved
comparing-preserved g c =
    let i = c.comparing.invariant in
    let seen = c.comparing.seen.items in
    let now = c.put.new.clients.items in
    let v = c.in-Some.client in
    let parts = c.into_parts-client in
    let client = parts.result.0 in
    let most = c.args.tally.now.promises in
    let receipt : ReceiptView = promised parts.result.1 in
    let before = c.comparing.tally.order in
    let order = c.compare.new.tally.order in
    let made : All (Contains most) v.receipt.promises =
    subst (λ (r : ReceiptView). All (Contains most) r.promises) parts.ensures.1
    (subst (λ (t : TallyView). All (Contains t.promises) receipt.promises) i.same c.compare.ensures.promised) in
    let begins = subst (λ (r : ReceiptView). IsPrefix r.order order) parts.ensures.1 c.compare.ensures.seen in
    let there : Contains now v.history = subst (λ h. Contains now h) parts.ensures.0
    (has_last seen now client c.put.ensures) in
    record {
      same = c.compare.ensures.same ∙ ap (λ (t : TallyView). record t { order = order }) i.same;
      keeps = (
        i.keeps.0 ++ client ∷ [],
        sym (append_assoc c.args.seen.now.items i.keeps.0 (client ∷ []))
            ∙ (ap (λ l. l ++ client ∷ []) i.keeps.1 ∙ sym c.put.ensures),
      );
      done = (
        v ∷ i.done.0,
        i.done.1 ∙ (ap (λ l. l ++ i.done.0) c.in-Some.ensures.items
            ∙ append_assoc c.pop.new.self.items (v ∷ []) i.done.0),
        All-cons (IsCompared most order now) v i.done.0 (made, begins, there)
            (All-weaker (IsCompared most before seen) (IsCompared most order now)
            (λ k w. (
              w.0,
              begins_on k.receipt.order before order w.1 c.compare.ensures.later,
              has_still seen now k.history client c.put.ensures w.2,
            )) i.done.0 i.done.2),
      );
    }

pub returns-clause-each : goal.returns-clause-each
returns-clause-each g c =
    let i = c.comparing.invariant in
    let ok = c.comparing.clients.ok in
    let len = c.in_default.ensures.cases.0 in
    let none : length c.comparing.clients.items ≡ 0 = omega arith in
    All-same (IsCompared c.args.tally.now.promises c.comparing.tally.order c.comparing.seen.items)
    c.args.clients.items i.done.0
    (i.done.1 ∙ empty_front c.comparing.clients.items i.done.0 none) i.done.2
