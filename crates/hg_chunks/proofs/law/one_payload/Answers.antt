use Rattle.hg_chunks.proofs.OneReading.{one_payload_lem}
use Rattle.hg_chunks.proofs.law.one_payload.Goals as goal

pub returns : goal.returns
returns c = one_payload_lem
