use Rattle.std.proofs.lemmas.Result.{IfOk-weaker}
use Rattle.hg_store_tools.proofs.Logs.{shelved_on}
use Rattle.hg_store_tools.proofs.bundles.put_log_on.Goals as goal

pub returns : goal.returns
returns g c =
    let start = c.args.start.now in
    let b = g.R.Read.remaining c.args.reader.now in
    let d = g.R.Read.remaining c.visit_from.new.reader in
    IfOk-weaker c.visit_from.result _ _
    (λ ending visits. shelved_on c.args.form g.row.A.Denot c.args.from start.head start.mark b d
    (λ s. g.S.BundleSink.has s) c.args.shelf.now c.visit_from.new.target ending c.requires.mark visits)
    c.visit_from.ensures.ok
