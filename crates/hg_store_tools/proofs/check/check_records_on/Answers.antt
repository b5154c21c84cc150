use Rattle.std.proofs.lemmas.Result.{IfOk-weaker, MatchResult-weaker}
use Rattle.hg_store_tools.proofs.Places.{checked_on, not_checked_on}
use Rattle.hg_store_tools.proofs.check.check_records_on.Goals as goal

pub returns-clause-ok : goal.returns-clause-ok
returns-clause-ok g c =
    let start = c.args.start.now in
    let b = g.R.Read.remaining c.args.reader.now in
    let d = g.R.Read.remaining c.visit_from.new.reader in
    IfOk-weaker c.visit_from.result _ _
    (λ ending visits. checked_on start.head start.mark b d _ _ _ ending visits) c.visit_from.ensures.ok

pub returns-clause-err : goal.returns-clause-err
returns-clause-err g c =
    let start = c.args.start.now in
    let b = g.R.Read.remaining c.args.reader.now in
    let d = g.R.Read.remaining c.visit_from.new.reader in
    MatchResult-weaker c.visit_from.result c.visit_from.ensures.err (λ _ _. tt)
    (λ fault stops. not_checked_on start.head start.mark b d _ _ _ _ fault stops (λ _ _ _ _ no. no))
