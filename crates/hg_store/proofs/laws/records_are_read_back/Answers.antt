use Rattle.hg_store.proofs.Crash.{closed_store}
use Rattle.hg_store.proofs.laws.records_are_read_back.Goals as goal

pub returns : goal.returns
returns c = λ head records behind allowed each. closed_store head records behind allowed each
