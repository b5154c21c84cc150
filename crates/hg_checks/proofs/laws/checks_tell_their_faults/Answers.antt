use Rattle.hg_checks.proofs.Faults.{tells_fault}
use Rattle.hg_checks.proofs.laws.checks_tell_their_faults.Goals as goal

pub returns : goal.returns
returns c = λ kind rows phases pairs payload fault is. tells_fault kind rows phases pairs payload fault is
