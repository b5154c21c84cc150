use Rattle.std.proofs.lemmas.Result.{IfOk-weaker}
use Rattle.hg_store_tools.proofs.Lists.{listed_on}
use Rattle.hg_store_tools.proofs.listing.send_list_on.Goals as goal

pub returns : goal.returns
returns g c =
    let start = c.args.start.now in
    let b = g.R.Read.remaining c.args.reader.now in
    let d = g.R.Read.remaining c.visit_from.new.reader in
    IfOk-weaker c.visit_from.result _ _
    (λ ending visits. listed_on g.row.A.Denot c.args.from start.head start.mark b d
    (λ w. (g.W.Writer.told w).taken) c.args.writer.now c.visit_from.new.target ending c.requires.mark visits)
    c.visit_from.ensures.ok
