use Rattle.hg_keys.proofs.SetLemmas.{set_found, others_kept}
use Rattle.hg_keys.proofs.laws.a_set_name_is_found.Goals as goal

pub returns-clause-set : goal.returns-clause-set
returns-clause-set c = λ pairs name node. set_found pairs name node

pub returns-clause-others : goal.returns-clause-others
returns-clause-others c = λ pairs name other node differs. others_kept pairs name other node differs
