use Rattle.hg_stream.proofs.Settling.{settled_once}
use Rattle.hg_stream.proofs.laws.streams_are_settled_once.Goals as goal

pub returns : goal.returns
returns g c = settled_once _
