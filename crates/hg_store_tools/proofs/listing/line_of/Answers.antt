use Rattle.std.proofs.Common.{List, ℕ, subst}
use Rattle.hg_store_tools.specs.ChangesetCount.{Brings}
use Rattle.hg_store_tools.proofs.listing.line_of.Goals as goal

pub returns-in-Ok-line_from-clause-ok : goal.returns-in-Ok-line_from-clause-ok
returns-in-Ok-line_from-clause-ok g c =
    let told = c.in-Ok-line_from.ensures in
    record {
      when = told.0;
      count = c.in-Ok.count;
      is_when = told.1;
      brings = subst (λ (bytes : List ℕ). Brings g.row.A.Denot c.args.limits bytes c.in-Ok.count) c.bundle.ensures
          c.in-Ok.ensures.ok;
      spelled = told.2;
    }
