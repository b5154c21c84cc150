use Rattle.std.proofs.Common.{List, ℕ, inl, refl, subst}
use Rattle.std.proofs.lemmas.Result.{MatchResult-weaker, on_ok_weaker}
use Rattle.std.specs.Prelude.{OnOk}
use Rattle.hg_store_tools.specs.Canonical.{IsUncanonical}
use Rattle.hg_store_tools.specs.Logging.{IsInForm, LogForm, SendsNoRecord, SendsRecord, formed_bytes}
use Rattle.hg_store_tools.proofs.Logs.{sends_front, sends_none, sends_record}
use Rattle.hg_store_tools.proofs.bundles.LoggingRecordVisit.visit.Goals as goal

pub returns-then-place-self-clause-ok : goal.returns-then-place-self-clause-ok
returns-then-place-self-clause-ok g c =
    let told = (g.W.Writer.told c.args.target.now).taken in
    subst (λ (l : LogForm). SendsRecord g.row.A.Denot l c.args.place c.args.entry.now told told) c.self.view_is
    (inl (c.if-place-self.true, refl))

pub returns-in-Ok-clause-ok : goal.returns-in-Ok-clause-ok
returns-in-Ok-clause-ok g c =
    let A = g.row.A.Denot in
    let log : LogForm = record {
      limits = c.self.inside.limits;
      from = c.self.inside.from;
      form = c.self.inside.form;
    } in
    let before = g.W.Writer.told c.args.target.now in
    let after = g.W.Writer.told c.sent.new.writer in
    let bundle = formed_bytes c.in-Ok.bundle in
    let is = subst (λ (stored : List ℕ). IsInForm log.form A log.limits stored bundle) c.bundle.ensures
    c.in-Ok.ensures.ok in
    subst (λ (l : LogForm). OnOk c.sent.result (SendsRecord A l c.args.place c.args.entry.now before.taken after.taken))
    c.self.view_is
    (on_ok_weaker c.sent.result
    (λ out. sends_record A log c.args.place c.args.entry.now bundle c.bytes.result.now before after out.0
    c.if-place-self.false is c.bytes.ensures out.1) c.sent.ensures.ok)

pub returns-in-Ok-clause-err : goal.returns-in-Ok-clause-err
returns-in-Ok-clause-err g c =
    let A = g.row.A.Denot in
    let log : LogForm = record {
      limits = c.self.inside.limits;
      from = c.self.inside.from;
      form = c.self.inside.form;
    } in
    let before = g.W.Writer.told c.args.target.now in
    let after = g.W.Writer.told c.sent.new.writer in
    let bundle = formed_bytes c.in-Ok.bundle in
    let is = subst (λ (stored : List ℕ). IsInForm log.form A log.limits stored bundle) c.bundle.ensures
    c.in-Ok.ensures.ok in
    MatchResult-weaker c.sent.result c.sent.ensures.err (λ _ _. tt)
    (λ fault out.
    subst
    (λ (l : LogForm). SendsNoRecord A l c.args.place c.args.entry.now fault before.taken after.taken)
    c.self.view_is
    (sends_front A log c.args.place c.args.entry.now fault bundle c.bytes.result.now before after out.0 out.1
    c.if-place-self.false is c.bytes.ensures out.2 out.3))

pub returns-in-Err-clause-err : goal.returns-in-Err-clause-err
returns-in-Err-clause-err g c =
    let A = g.row.A.Denot in
    let log : LogForm = record {
      limits = c.self.inside.limits;
      from = c.self.inside.from;
      form = c.self.inside.form;
    } in
    let told = (g.W.Writer.told c.args.target.now).taken in
    subst (λ (l : LogForm). SendsNoRecord A l c.args.place c.args.entry.now c.in-Err.fault told told) c.self.view_is
    (sends_none A log c.args.place c.args.entry.now c.in-Err.fault told c.if-place-self.false
    (subst (λ (stored : List ℕ). IsUncanonical A c.in-Err.fault c.args.place log.limits stored) c.bundle.ensures
    c.in-Err.ensures.err))
