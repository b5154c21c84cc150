use Rattle.hg_log.specs.Parents.{parents_of}
use Rattle.hg_theorems.proofs.Reached.{as_many, others_stay, reached_get_target}
use Rattle.hg_theorems.proofs.values.advances_lower_ancestors.Goals as goal

pub returns-clause-reached : goal.returns-clause-reached
returns-clause-reached c = reached_get_target

pub returns-clause-others : goal.returns-clause-others
returns-clause-others c = others_stay

pub returns-clause-as_many : goal.returns-clause-as_many
returns-clause-as_many c = λ rows target heads phases. as_many (parents_of rows) target heads phases
