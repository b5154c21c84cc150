use Rattle.std.proofs.Common.{◌≡◌, ◌∷◌, Some, ap, sym, subst, refl, ◌∙◌}
use Rattle.hg_queue.specs.declared.view.TakerView.{TakerView}
use Rattle.hg_queue.specs.declared.view.View.TheVariants.{AsTaker}
use Rattle.hg_queue.specs.History.{has, IsDistinct}
use Rattle.hg_queue.specs.Words.{taker_view, claim_at, seen}
use Rattle.hg_queue.proofs.CallerLemmas.{has_here}
use Rattle.hg_queue.proofs.CallerLemmas.{knows}
use Rattle.hg_serve.proofs.Orders.{history_items}
use Rattle.hg_serve.proofs.desk.Desk.begin.Goals as goal

pub returns-clause-row : goal.returns-clause-row
returns-clause-row g c =
    let o = c.self.invariant in
    let l = c.hear.ensures in
    let p = (claim_at c.args.marked).push in
    let old = taker_view c.self.inside.taker in
    let now = taker_view c.hear.new.taker in
    let is : now ≡ record old {
      joined = p ∷ old.joined;
      awaited = Some (claim_at c.args.marked);
      heard = seen c.args.visitor.now;
    } =
    l.view ∙ ap (λ (t : TakerView g.row.A.Denot). record t { heard = seen c.args.visitor.now })
    c.join.ensures.view in
    let joined' = ap (λ (t : TakerView g.row.A.Denot). t.joined) is in
    let noted' = ap (λ (t : TakerView g.row.A.Denot). t.noted) is in
    let k = knows (AsTaker now) now l.fact.0 refl l.fact.1 in
    let once = subst IsDistinct joined' k.once in
    o.row p (ap (has p) (sym noted') ∙ k.joined p (ap (has p) joined' ∙ has_here p old.joined)) once.0

pub returns-clause-noted : goal.returns-clause-noted
returns-clause-noted g c =
    let l = c.hear.ensures in
    let p = (claim_at c.args.marked).push in
    let old = taker_view c.self.inside.taker in
    let now = taker_view c.hear.new.taker in
    let is : now ≡ record old {
      joined = p ∷ old.joined;
      awaited = Some (claim_at c.args.marked);
      heard = seen c.args.visitor.now;
    } =
    l.view ∙ ap (λ (t : TakerView g.row.A.Denot). record t { heard = seen c.args.visitor.now })
    c.join.ensures.view in
    let joined' = ap (λ (t : TakerView g.row.A.Denot). t.joined) is in
    let k = knows (AsTaker now) now l.fact.0 refl l.fact.1 in
    k.joined p (ap (has p) joined' ∙ has_here p old.joined)

pub returns-clause-known : goal.returns-clause-known
returns-clause-known g c =
    let l = c.hear.ensures in
    record {
      items = l.fact.0;
      stands = l.fact.1;
      taken = history_items c.hear.new.taker;
      room = l.taker.0.room ∙ c.requires.queue.1;
    }
