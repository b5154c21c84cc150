use Rattle.hg_obs.proofs.DataLaws.{found, first_fault, read_again, fault_told}
use Rattle.hg_obs.proofs.law.reading_is_the_grammar.Goals as goal

pub returns-clause-markers : goal.returns-clause-markers
returns-clause-markers g c = λ bytes markers fits. (found bytes markers fits, read_again bytes markers fits)

pub returns-clause-faults : goal.returns-clause-faults
returns-clause-faults g c =
    λ bytes fault fits other. (first_fault bytes fault fits, fault_told fault bytes fits other)
