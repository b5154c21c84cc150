use Rattle.hg_phases.proofs.CallerLemmas.{advances_joined, advances_either, advances_none}
use Rattle.hg_phases.proofs.laws.advances_come_together.Goals as goal

pub returns-clause-joined : goal.returns-clause-joined
returns-clause-joined c = advances_joined

pub returns-clause-either : goal.returns-clause-either
returns-clause-either c = advances_either

pub returns-clause-none : goal.returns-clause-none
returns-clause-none c = advances_none
