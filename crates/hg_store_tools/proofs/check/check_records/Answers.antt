use Rattle.std.proofs.lemmas.Result.{IfOk-weaker, MatchResult-weaker}
use Rattle.hg_store_tools.proofs.Checks.{checked, not_checked}
use Rattle.hg_store_tools.proofs.Files.{headless}
use Rattle.hg_store_tools.proofs.check.check_records.Goals as goal

pub returns-in-Err-clause-err : goal.returns-in-Err-clause-err
returns-in-Err-clause-err g c =
    headless c.in-Err.fault (g.R.Read.remaining c.args.reader.now) (g.R.Read.remaining c.begin.new.reader)
    c.in-Err.ensures.err

pub returns-clause-ok : goal.returns-clause-ok
returns-clause-ok g c =
    let a = g.R.Read.remaining c.args.reader.now in
    let b = g.R.Read.remaining c.begin.new.reader in
    let d = g.R.Read.remaining c.visit_records.new.reader in
    IfOk-weaker c.visit_records.result _ _
    (λ ending visits. checked c.in-Ok.begun.head c.in-Ok.begun.digest a b d c.in-Ok.ensures.ok _ _ _ ending visits)
    c.visit_records.ensures.ok

pub returns-clause-err : goal.returns-clause-err
returns-clause-err g c =
    let a = g.R.Read.remaining c.args.reader.now in
    let b = g.R.Read.remaining c.begin.new.reader in
    let d = g.R.Read.remaining c.visit_records.new.reader in
    MatchResult-weaker c.visit_records.result c.visit_records.ensures.err (λ _ _. tt)
    (λ fault stops. not_checked c.in-Ok.begun.head c.in-Ok.begun.digest a b d c.in-Ok.ensures.ok _ _ _ _ fault stops
    (λ _ _ _ _ no. no))
