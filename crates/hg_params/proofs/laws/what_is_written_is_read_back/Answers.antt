use Rattle.hg_params.proofs.WritingLaws.{read_back}
use Rattle.hg_params.proofs.laws.what_is_written_is_read_back.Goals as goal

pub returns : goal.returns
returns g c = λ kind id params. read_back kind id params
