use Rattle.std.proofs.Common.{inl, refl, subst}
use Rattle.std.proofs.lemmas.Result.{MatchResult-weaker, on_ok_weaker}
use Rattle.std.specs.Prelude.{OnOk}
use Rattle.hg_store_tools.specs.Listing.{ListForm, ListsNoRecord, ListsRecord}
use Rattle.hg_store_tools.proofs.Lists.{lists_front, lists_none, lists_record}
use Rattle.hg_store_tools.proofs.listing.ListingRecordVisit.visit.Goals as goal

pub returns-then-place-self-clause-ok : goal.returns-then-place-self-clause-ok
returns-then-place-self-clause-ok g c =
    let told = (g.W.Writer.told c.args.target.now).taken in
    subst (λ (l : ListForm). ListsRecord g.row.A.Denot l c.args.place c.args.entry.now told told) c.self.view_is
    (inl (c.if-place-self.true, refl))

pub returns-in-Ok-clause-ok : goal.returns-in-Ok-clause-ok
returns-in-Ok-clause-ok g c =
    let A = g.row.A.Denot in
    let list : ListForm = record { limits = c.self.inside.limits; from = c.self.inside.from } in
    let before = g.W.Writer.told c.args.target.now in
    let after = g.W.Writer.told c.sent.new.writer in
    subst (λ (l : ListForm). OnOk c.sent.result (ListsRecord A l c.args.place c.args.entry.now before.taken after.taken))
    c.self.view_is
    (on_ok_weaker c.sent.result
    (λ out. lists_record A list c.args.place c.args.entry.now c.in-Ok.line.items c.as_slice.result.now before after out.0
    c.if-place-self.false c.in-Ok.ensures.ok c.as_slice.ensures.value out.1) c.sent.ensures.ok)

pub returns-in-Ok-clause-err : goal.returns-in-Ok-clause-err
returns-in-Ok-clause-err g c =
    let A = g.row.A.Denot in
    let list : ListForm = record { limits = c.self.inside.limits; from = c.self.inside.from } in
    let before = g.W.Writer.told c.args.target.now in
    let after = g.W.Writer.told c.sent.new.writer in
    MatchResult-weaker c.sent.result c.sent.ensures.err (λ _ _. tt)
    (λ fault out.
    subst
    (λ (l : ListForm). ListsNoRecord A l c.args.place c.args.entry.now fault before.taken after.taken)
    c.self.view_is
    (lists_front A list c.args.place c.args.entry.now fault c.in-Ok.line.items c.as_slice.result.now before after out.0
    out.1 c.if-place-self.false c.in-Ok.ensures.ok c.as_slice.ensures.value out.2 out.3))

pub returns-in-Err-clause-err : goal.returns-in-Err-clause-err
returns-in-Err-clause-err g c =
    let A = g.row.A.Denot in
    let list : ListForm = record { limits = c.self.inside.limits; from = c.self.inside.from } in
    let told = (g.W.Writer.told c.args.target.now).taken in
    subst (λ (l : ListForm). ListsNoRecord A l c.args.place c.args.entry.now c.in-Err.fault told told) c.self.view_is
    (lists_none A list c.args.place c.args.entry.now c.in-Err.fault told c.if-place-self.false c.in-Err.ensures.err)
