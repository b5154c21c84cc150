use Rattle.hg_chunks.proofs.OneReading.{one_reading_lem}
use Rattle.hg_chunks.proofs.law.one_reading.Goals as goal

pub returns : goal.returns
returns c = one_reading_lem
