use Rattle.hg_chunks.proofs.Written.{written_payload}
use Rattle.hg_chunks.proofs.law.what_is_written_is_a_payload.Goals as goal

pub returns : goal.returns
returns c = written_payload
