use Rattle.std.proofs.Common.{◌≡◌, ◌-◌, ◌∙◌, List, ap, subst, sym, inl, inr, true≢false, length, get_or, arith}
use Rattle.hg_commit.specs.Handing.{Fits, Stays}
use Rattle.hg_commit.specs.Locks.{WaitingView}
use Rattle.hg_commit.specs.declared.disk.TheConstants.{BATCH_BYTES}
use Rattle.hg_commit.specs.declared.waiting.Record.{Record}
use Rattle.hg_commit.proofs.Batches.{no_last, told_of_last}
use Rattle.hg_commit.proofs.waiting.Waiting.comes_at.Goals as goal

pub returns-then-record-place-clause-stays : goal.returns-then-record-place-clause-stays
returns-then-record-place-clause-stays g c = λ t.
    let x = c.in-Some.record.now in
    told_of_last (Stays BATCH_BYTES c.args.place c.args.disk.now.batch) c.args.self.now.records x
    (subst (λ (l : List (Record g.row.A.Denot)). x ≡ get_or l (length l - 1) x)
    (c.deref.ensures.value ∙ ap (λ (v : WaitingView g.row.A.Denot). v.records) c.self.view_is)
    (c.in-Some.ensures.item.3.1 x)) (inl c.if-record-place.true)

pub returns-else-record-place-clause-comes : goal.returns-else-record-place-clause-comes
returns-else-record-place-clause-comes g c = λ t.
    let x = c.in-Some.record.now in
    told_of_last (λ (next : Record g.row.A.Denot). (next.place ≡ c.args.place)
    × Fits BATCH_BYTES c.args.disk.now.batch next.entry) c.args.self.now.records x
    (subst (λ (l : List (Record g.row.A.Denot)). x ≡ get_or l (length l - 1) x)
    (c.deref.ensures.value ∙ ap (λ (v : WaitingView g.row.A.Denot). v.records) c.self.view_is)
    (c.in-Some.ensures.item.3.1 x)) (c.if-record-place.false, c.fits.ensures.0 t)

pub returns-else-record-place-clause-stays : goal.returns-else-record-place-clause-stays
returns-else-record-place-clause-stays g c = λ t.
    let x = c.in-Some.record.now in
    told_of_last (Stays BATCH_BYTES c.args.place c.args.disk.now.batch) c.args.self.now.records x
    (subst (λ (l : List (Record g.row.A.Denot)). x ≡ get_or l (length l - 1) x)
    (c.deref.ensures.value ∙ ap (λ (v : WaitingView g.row.A.Denot). v.records) c.self.view_is)
    (c.in-Some.ensures.item.3.1 x)) (inr (λ may. true≢false (sym (c.fits.ensures.1 may) ∙ t)))

pub returns-in-None-clause-stays : goal.returns-in-None-clause-stays
returns-in-None-clause-stays g c = λ t.
    let none = c.in-None.ensures.item.3 in
    let same = ap length (c.deref.ensures.value ∙ ap (λ (v : WaitingView g.row.A.Denot). v.records) c.self.view_is) in
    no_last (Stays BATCH_BYTES c.args.place c.args.disk.now.batch) c.args.self.now.records (omega (arith, none, same))
