use Rattle.std.proofs.Common.{refl}
use Rattle.hg_obs.proofs.LawfulLemmas.{lawful_none, lawful_merged, lawful_front}
use Rattle.hg_obs.proofs.law.markers_stay_lawful.Goals as goal

pub returns : goal.returns
returns g c = record {
  none = lawful_none;
  merge = lawful_merged;
  front = lawful_front;
  bytes = λ markers lawful. record { spelled = refl; each = lawful.each };
}
