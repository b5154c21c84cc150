use Rattle.std.proofs.lemmas.Result.{IfOk-weaker}
use Rattle.hg_store_tools.proofs.Logs.{shelved}
use Rattle.hg_store_tools.proofs.bundles.put_log.Goals as goal

pub returns : goal.returns
returns g c =
    let a = g.R.Read.remaining c.args.reader.now in
    let b = g.R.Read.remaining c.begin.new.reader in
    let d = g.R.Read.remaining c.visit_records.new.reader in
    record {
      ok = IfOk-weaker c.visit_records.result _ _
          (λ ending visits. shelved c.args.form g.row.A.Denot c.args.from c.in-Ok.begun.head c.in-Ok.begun.digest a b d
          c.in-Ok.ensures.ok (λ s. g.S.BundleSink.has s) c.args.shelf.now c.visit_records.new.target ending visits)
          c.visit_records.ensures.ok;
    }
