use Rattle.std.proofs.Common.{◌≡◌, ◌∙◌, List, ℕ, ap, refl, subst, sym}
use Rattle.std.proofs.lemmas.Result.{IfOk-weaker, MatchResult-weaker}
use Rattle.hg_recovery.specs.Opening.{empty_repository}
use Rattle.hg_store.specs.Pieces.{HasToGive}
use Rattle.hg_store.specs.declared.head.Setup.{Setup}
use Rattle.hg_store_tools.specs.Reporting.{IsUntold, Replayed, Reports, report_text}
use Rattle.hg_store_tools.specs.declared.fault.Fault.{Fault}
use Rattle.hg_store_tools.specs.declared.fault.StoreEnd.{StoreEnd}
use Rattle.hg_store_tools.proofs.Reports.{not_begun, not_told, reports, starved}
use Rattle.hg_store_tools.proofs.report.report_text.Goals as goal

pub returns-in-Err-clause-err : goal.returns-in-Err-clause-err
returns-in-Err-clause-err g c =
    not_begun g.row.A.Denot c.in-Err.fault (g.R.Read.remaining c.args.reader.now)
    (g.R.Read.remaining c.begin.new.reader) c.in-Err.ensures.err

pub returns-in-Err-visit_records-clause-err : goal.returns-in-Err-visit_records-clause-err
returns-in-Err-visit_records-clause-err g c =
    let a = g.R.Read.remaining c.args.reader.now in
    let b = g.R.Read.remaining c.begin.new.reader in
    let d = g.R.Read.remaining c.visit_records.new.reader in
    not_told c.in-Ok.begun.head c.in-Ok.begun.digest a b d c.in-Ok.ensures.ok _ _
    (c.empty_repository.ensures ∙ ap (λ (s : Setup). empty_repository s) c.setup.ensures) refl
    c.in-Err-visit_records.fault c.in-Err-visit_records.ensures.err

pub returns-clause-ok : goal.returns-clause-ok
returns-clause-ok g c =
    let a = g.R.Read.remaining c.args.reader.now in
    let b = g.R.Read.remaining c.begin.new.reader in
    let d = g.R.Read.remaining c.visit_records.new.reader in
    IfOk-weaker c.told_text.result _ _
    (λ told is.
    subst (λ (e : StoreEnd). (file : List ℕ) × HasToGive a file × Reports g.row.A.Denot file e told.1.items) (sym is.0)
    (reports c.in-Ok.begun.head c.in-Ok.begun.digest a b d c.in-Ok.ensures.ok _ _
    (c.empty_repository.ensures ∙ ap (λ (s : Setup). empty_repository s) c.setup.ensures) refl
    c.in-Ok-visit_records.ending told.1.items c.in-Ok-visit_records.ensures.ok
    (subst (λ (r : Replayed g.row.A.Denot). told.1.items ≡ report_text r.repo r.count) c.replayed.view_is is.1)))
    c.told_text.ensures.ok

pub returns-clause-err : goal.returns-clause-err
returns-clause-err g c =
    let a = g.R.Read.remaining c.args.reader.now in
    let b = g.R.Read.remaining c.begin.new.reader in
    let d = g.R.Read.remaining c.visit_records.new.reader in
    MatchResult-weaker c.told_text.result c.told_text.ensures.err (λ _ _. tt)
    (λ fault is.
    subst (λ (f : Fault). (file : List ℕ) × HasToGive a file × IsUntold g.row.A.Denot file f) (sym is)
    (starved c.in-Ok.begun.head c.in-Ok.begun.digest a b d c.in-Ok.ensures.ok _ _
    (c.empty_repository.ensures ∙ ap (λ (s : Setup). empty_repository s) c.setup.ensures) refl
    c.in-Ok-visit_records.ending c.in-Ok-visit_records.ensures.ok))
