use Rattle.hg_params.proofs.EveryReading.{every_header}
use Rattle.hg_params.proofs.laws.every_header_is_read.Goals as goal

pub returns : goal.returns
returns g c = every_header
