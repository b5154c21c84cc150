use Rattle.hg_types.proofs.PartLemmas.{one_value, not_lacking}
use Rattle.hg_types.proofs.law.a_key_has_one_value.Goals as goal

pub returns : goal.returns
returns g c = record { one = one_value; or_none = not_lacking }
