use Rattle.hg_store.proofs.NoDamage.{not_damaged}
use Rattle.hg_store.proofs.laws.a_store_is_not_damaged.Goals as goal

pub returns : goal.returns
returns c = not_damaged
