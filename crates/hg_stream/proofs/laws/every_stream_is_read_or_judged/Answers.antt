use Rattle.hg_stream.proofs.EveryVerdict.{every_verdict}
use Rattle.hg_stream.proofs.laws.every_stream_is_read_or_judged.Goals as goal

pub returns : goal.returns
returns g c = every_verdict
