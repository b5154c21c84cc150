use Rattle.hg_repo.proofs.LawfulRuns.{run_lawful}
use Rattle.hg_repo.proofs.laws.runs_keep_repositories_lawful.Goals as goal

pub returns : goal.returns
returns g c = run_lawful c.handled_parts_keep_repositories_lawful.ensures.part
