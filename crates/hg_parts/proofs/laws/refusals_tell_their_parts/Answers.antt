use Rattle.hg_parts.proofs.Refusing.{refused_so}
use Rattle.hg_parts.proofs.laws.refusals_tell_their_parts.Goals as goal

pub returns : goal.returns
returns g c = refused_so c.checks_tell_their_faults.ensures
