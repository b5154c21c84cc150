use Rattle.hg_obs.proofs.MarkerLaws.{same_from_bytes}
use Rattle.hg_obs.proofs.law.bytes_tell_markers.Goals as goal

pub returns : goal.returns
returns g c = λ a b a_fits a_ids b_fits b_ids e. same_from_bytes a b a_fits a_ids b_fits b_ids e
