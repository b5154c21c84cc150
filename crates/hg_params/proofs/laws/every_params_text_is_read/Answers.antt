use Rattle.hg_params.proofs.EveryReading.{every_params_text}
use Rattle.hg_params.proofs.laws.every_params_text_is_read.Goals as goal

pub returns : goal.returns
returns g c = every_params_text
