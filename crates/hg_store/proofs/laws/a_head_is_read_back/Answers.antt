use Rattle.std.proofs.Common.{refl}
use Rattle.hg_store.proofs.Heads.{one_head_lem}
use Rattle.hg_store.proofs.laws.a_head_is_read_back.Goals as goal

pub returns-clause-written : goal.returns-clause-written
returns-clause-written c = λ head behind allowed. (behind, record { spelled = refl; allowed = allowed })

pub returns-clause-one : goal.returns-clause-one
returns-clause-one c = one_head_lem
