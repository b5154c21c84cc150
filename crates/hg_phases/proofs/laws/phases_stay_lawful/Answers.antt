use Rattle.hg_phases.proofs.CallerLemmas.{lawful_behind, lawful_registered, lawful_advanced}
use Rattle.hg_phases.proofs.CallerLemmas.{length_registered, length_advanced}
use Rattle.hg_phases.proofs.laws.phases_stay_lawful.Goals as goal

pub returns-clause-behind : goal.returns-clause-behind
returns-clause-behind c = lawful_behind

pub returns-clause-registered : goal.returns-clause-registered
returns-clause-registered c = lawful_registered

pub returns-clause-advanced : goal.returns-clause-advanced
returns-clause-advanced c = lawful_advanced

pub returns-clause-counts : goal.returns-clause-counts
returns-clause-counts c =
    λ parents target heads phases.
    (length_registered parents target phases, length_advanced parents target heads phases)
