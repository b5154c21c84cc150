use Rattle.hg_stream.proofs.FirstFaults.{one_verdict}
use Rattle.hg_stream.proofs.laws.streams_have_one_verdict.Goals as goal

pub returns : goal.returns
returns g c = one_verdict _
