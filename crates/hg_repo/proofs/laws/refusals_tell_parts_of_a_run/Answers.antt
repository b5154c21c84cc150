use Rattle.hg_repo.proofs.RefusedRuns.{refused_in}
use Rattle.hg_repo.proofs.laws.refusals_tell_parts_of_a_run.Goals as goal

pub returns : goal.returns
returns g c = refused_in c.refusals_tell_their_parts.ensures
