use Rattle.hg_push.proofs.Counts.{none_is_cut, one_more}
use Rattle.hg_push.proofs.laws.complete_pushes_end_once.Goals as goal

pub returns : goal.returns
returns g c = record { count = one_more; no_cut = none_is_cut }
