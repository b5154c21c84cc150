use Rattle.std.proofs.Common.{sym, subst}
use Rattle.hg_push.specs.History.{Serial}
use Rattle.hg_push.specs.code.Rows.{StepsRow}
use Rattle.hg_push.specs.Run.{RepositoryOf, run_push}
use Rattle.hg_push.proofs.step.step_row.Goals as goal

pub returns-in-Part-clause-steps : goal.returns-in-Part-clause-steps
returns-in-Part-clause-steps g c =
    let old : Serial (RepositoryOf g.row.A.Denot) =
    record { repo = c.args.repo.now; journal = c.args.journal.now.items } in
    subst (λ what. StepsRow run_push old c.args.row.now
    (record {
      item = record { push = c.args.row.now.push; index = c.args.index; what = what };
      refused = c.stage.result;
    }) old c.stage.new.row)
    (sym c.in-Part.is) (c.stage.ensures.steps old)
