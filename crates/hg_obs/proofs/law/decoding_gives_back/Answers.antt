use Rattle.hg_obs.proofs.Base85RoundTrip.{round_trip}
use Rattle.hg_obs.proofs.law.decoding_gives_back.Goals as goal

pub returns : goal.returns
returns c = λ bytes small. round_trip bytes small
