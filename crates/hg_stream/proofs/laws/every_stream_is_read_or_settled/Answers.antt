use Rattle.hg_stream.proofs.EveryStream.{every_stream}
use Rattle.hg_stream.proofs.laws.every_stream_is_read_or_settled.Goals as goal

pub returns : goal.returns
returns g c = every_stream
