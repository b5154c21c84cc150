use Rattle.hg_store.proofs.Fronts.{front_is_store, no_store}
use Rattle.hg_store.proofs.laws.a_front_is_read.Goals as goal

pub returns-clause-no_store : goal.returns-clause-no_store
returns-clause-no_store c = no_store

pub returns-clause-front : goal.returns-clause-front
returns-clause-front c = front_is_store
