use Rattle.hg_chunks.proofs.EveryReading.{every_reading_lem}
use Rattle.hg_chunks.proofs.law.every_reading.Goals as goal

pub returns : goal.returns
returns c = every_reading_lem
