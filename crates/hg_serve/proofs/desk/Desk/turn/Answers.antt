use Rattle.std.proofs.Common.{[], ◌≡◌, ◌∷◌, ◌++◌, Some, ap, sym, ◌∙◌}
use Rattle.hg_queue.specs.declared.view.TakerView.{TakerView}
use Rattle.hg_queue.specs.declared.view.View.TheVariants.{AsTaker}
use Rattle.hg_queue.specs.History.{has}
use Rattle.hg_queue.specs.Seats.{settle}
use Rattle.hg_queue.specs.Words.{taker_view, history, taken}
use Rattle.hg_queue.proofs.CallerLemmas.{stands_at}
use Rattle.hg_serve.specs.Desks.{DeskView}
use Rattle.hg_serve.proofs.Orders.{turned, taker_named, history_items}
use Rattle.hg_serve.proofs.desk.Desk.turn.Goals as goal

pub invariant_of-self : goal.invariant_of-self
invariant_of-self g c =
    let o = c.self.invariant in
    let e = c.in-Some.ensures in
    let old = taker_view c.self.inside.taker in
    let now = taker_view c.take.new.taker in
    let x = c.in-Some.item in
    let refused = c.step-refused.result in
    let is : now ≡ record old { settled = history c.self.inside.taker; last = Some x } = e.view in
    let last' : now.last ≡ Some x = ap (λ (t : TakerView g.row.A.Denot). t.last) is in
    let settled' = ap (λ (t : TakerView g.row.A.Denot). t.settled) is in
    let noted' = ap (λ (t : TakerView g.row.A.Denot). t.noted) is in
    let joined' = ap (λ (t : TakerView g.row.A.Denot). t.joined) is in
    let history' : history c.tell.new.self ≡ history c.self.inside.taker ++ taken x refused ∷ [] =
    c.tell.ensures.history ∙ (λ i. settled' i ++ settle (last' i) refused) in
    let of_noted = ap (has x.push) (sym noted') ∙ e.noted in
    turned _ _ _ c.self.inside.book c.step-refused.new.self c.self.inside.taker c.tell.new.self
    c.self.inside.kept x refused
    c.step-refused.ensures.pushes (λ h. c.step-refused.ensures.holds _ h) of_noted
    (c.tell.ensures.queue _ _
    (taker_named _ _ _ _ _ c.requires.queue.0 c.requires.queue.1 c.take.ensures.taker))
    (ap (λ (t : TakerView g.row.A.Denot). t.noted) c.tell.ensures.view ∙ noted')
    (ap (λ (t : TakerView g.row.A.Denot). t.joined) c.tell.ensures.view ∙ joined')
    history' o

pub returns-in-Some-clause-turned : goal.returns-in-Some-clause-turned
returns-in-Some-clause-turned g c =
    let old = taker_view c.self.inside.taker in
    let now = taker_view c.take.new.taker in
    let x = c.in-Some.item in
    let refused = c.step-refused.result in
    let is : now ≡ record old { settled = history c.self.inside.taker; last = Some x } =
    c.in-Some.ensures.view in
    let last' : now.last ≡ Some x = ap (λ (t : TakerView g.row.A.Denot). t.last) is in
    let settled' = ap (λ (t : TakerView g.row.A.Denot). t.settled) is in
    let more = ap (λ (d : DeskView g.row.A.Denot). d.history ++ taken x refused ∷ []) c.self.view_is in
    (taken x refused, c.tell.ensures.history ∙ (λ i. settled' i ++ settle (last' i) refused) ∙ more)

pub returns-in-Some-clause-known : goal.returns-in-Some-clause-known
returns-in-Some-clause-known g c =
    let f = c.in-Some.ensures.fact in
    let view' = c.tell.ensures.view in
    record {
      items = f.0;
      stands = stands_at _ _ f.0 (ap (λ (t : TakerView g.row.A.Denot). AsTaker t) (sym view')) f.1;
      taken = history_items c.tell.new.self;
      room = ap (λ (t : TakerView g.row.A.Denot). t.capacity) view'
          ∙ (c.take.ensures.taker.room ∙ c.requires.queue.1);
    }
