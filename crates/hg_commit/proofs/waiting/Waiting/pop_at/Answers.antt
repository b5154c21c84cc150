use Rattle.std.proofs.Common.{◌≡◌, ◌∙◌, List, ap, subst, sym, vec_len, length, rules}
use Rattle.std.specs.Prelude.{IfSome}
use Rattle.std.proofs.lemmas.List.Elements.{All-pop}
use Rattle.hg_parts.specs.declared.item.Taken.{Taken}
use Rattle.hg_commit.specs.Handing.{Fits, Stays}
use Rattle.hg_commit.specs.Locks.{WaitingView}
use Rattle.hg_commit.specs.Records.{IsRecordOf}
use Rattle.hg_commit.specs.declared.disk.TheConstants.{BATCH_BYTES}
use Rattle.hg_commit.specs.declared.waiting.Record.{Record}
use Rattle.hg_commit.proofs.Batches.{at_place, none_went, some_weaker, went_so}
use Rattle.hg_commit.proofs.Handing.{was_last, was_none}
use Rattle.hg_commit.proofs.waiting.Waiting.pop_at.Goals as goal

pub invariant_of-self : goal.invariant_of-self
invariant_of-self g c =
    let w = c.self.inside in
    let i = c.self.invariant in
    let Waits : Record g.row.A.Denot → Type 0 = λ r. IsRecordOf g.J.Naming.first w.witness r.place r.entry in (
      (All-pop Waits w.records.items c.pop.new.self.items c.pop.result c.pop.ensures.items i.0).0,
      i.1,
      search rules,
      i.3,
    )

pub returns-then-comes_at-clause-found : goal.returns-then-comes_at-clause-found
returns-then-comes_at-clause-found g c =
    let w = c.self.inside in
    let first = g.J.Naming.first in
    let Waits : Record g.row.A.Denot → Type 0 = λ r. IsRecordOf first w.witness r.place r.entry in
    let Comes : Record g.row.A.Denot → Type 0 = λ next. (next.place ≡ c.args.place)
    × Fits BATCH_BYTES c.args.disk.now.batch next.entry in
    let items = ap (λ (v : WaitingView g.row.A.Denot). v.records) (sym c.self.view_is) ∙ c.pop.ensures.items in
    let one = All-pop Waits w.records.items c.pop.new.self.items c.pop.result c.pop.ensures.items c.self.invariant.0 in
    let there = ap (λ (v : WaitingView g.row.A.Denot). v.history) c.self.view_is in
    let found = at_place (λ k e. IsRecordOf first w.witness k e) c.args.place c.pop.result one.1
    (some_weaker Comes (λ (next : Record g.row.A.Denot). next.place ≡ c.args.place) c.pop.result (λ x p. p.0)
    (went_so Comes c.args.self.now.records c.pop.new.self.items c.pop.result items
    (c.comes_at.ensures.comes c.if-comes_at.true))) in
    subst (λ (h : List (Taken g.row.A.Denot)). IfSome c.pop.result (λ f. IsRecordOf first h c.args.place f.entry)) there
    found

pub returns-then-comes_at-clause-fits : goal.returns-then-comes_at-clause-fits
returns-then-comes_at-clause-fits g c =
    let Comes : Record g.row.A.Denot → Type 0 = λ next. (next.place ≡ c.args.place)
    × Fits BATCH_BYTES c.args.disk.now.batch next.entry in
    let items = ap (λ (v : WaitingView g.row.A.Denot). v.records) (sym c.self.view_is) ∙ c.pop.ensures.items in
    some_weaker Comes (λ (next : Record g.row.A.Denot). Fits BATCH_BYTES c.args.disk.now.batch next.entry) c.pop.result
    (λ x p. p.1)
    (went_so Comes c.args.self.now.records c.pop.new.self.items c.pop.result items
    (c.comes_at.ensures.comes c.if-comes_at.true))

pub returns-then-comes_at-clause-last : goal.returns-then-comes_at-clause-last
returns-then-comes_at-clause-last g c =
    was_last c.args.self.now.records c.pop.new.self.items c.pop.result
    (ap (λ (v : WaitingView g.row.A.Denot). v.records) (sym c.self.view_is) ∙ c.pop.ensures.items)

pub returns-then-comes_at-clause-none : goal.returns-then-comes_at-clause-none
returns-then-comes_at-clause-none g c =
    was_none c.args.self.now.records c.pop.new.self.items c.pop.result
    (ap (λ (v : WaitingView g.row.A.Denot). v.records) (sym c.self.view_is) ∙ c.pop.ensures.items)

pub returns-then-comes_at-clause-stays : goal.returns-then-comes_at-clause-stays
returns-then-comes_at-clause-stays g c =
    let w = c.self.inside in
    none_went (Stays BATCH_BYTES c.args.place c.args.disk.now.batch) c.args.self.now.records c.pop.result
    (vec_len w.records) (vec_len c.pop.new.self) c.pop.ensures.cases
    (w.records.ok.0 ∙ ap (λ (v : WaitingView g.row.A.Denot). length v.records) c.self.view_is)

pub returns-else-comes_at-clause-stays : goal.returns-else-comes_at-clause-stays
returns-else-comes_at-clause-stays g c = c.comes_at.ensures.stays c.if-comes_at.false
