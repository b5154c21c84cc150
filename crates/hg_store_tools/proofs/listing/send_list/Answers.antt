use Rattle.std.proofs.lemmas.Result.{IfOk-weaker, MatchResult-weaker}
use Rattle.hg_store_tools.proofs.Lists.{listed, unlisted, unlisted_headless}
use Rattle.hg_store_tools.proofs.listing.send_list.Goals as goal

pub returns-in-Err-clause-err : goal.returns-in-Err-clause-err
returns-in-Err-clause-err g c =
    unlisted_headless g.row.A.Denot c.args.from c.in-Err.fault (g.R.Read.remaining c.args.reader.now)
    (g.R.Read.remaining c.begin.new.reader) (g.W.Writer.told c.args.writer.now).taken c.in-Err.ensures.err

pub returns-clause-ok : goal.returns-clause-ok
returns-clause-ok g c =
    let a = g.R.Read.remaining c.args.reader.now in
    let b = g.R.Read.remaining c.begin.new.reader in
    let d = g.R.Read.remaining c.visit_records.new.reader in
    IfOk-weaker c.visit_records.result _ _
    (λ ending visits. listed g.row.A.Denot c.args.from c.in-Ok.begun.head c.in-Ok.begun.digest a b d
    c.in-Ok.ensures.ok (λ w. (g.W.Writer.told w).taken) c.args.writer.now c.visit_records.new.target ending visits)
    c.visit_records.ensures.ok

pub returns-clause-err : goal.returns-clause-err
returns-clause-err g c =
    let a = g.R.Read.remaining c.args.reader.now in
    let b = g.R.Read.remaining c.begin.new.reader in
    let d = g.R.Read.remaining c.visit_records.new.reader in
    MatchResult-weaker c.visit_records.result c.visit_records.ensures.err (λ _ _. tt)
    (λ fault stops. unlisted g.row.A.Denot c.args.from c.in-Ok.begun.head c.in-Ok.begun.digest a b d
    c.in-Ok.ensures.ok (λ w. (g.W.Writer.told w).taken) c.args.writer.now c.visit_records.new.target fault stops)
