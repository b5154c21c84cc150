use Rattle.hg_params.proofs.WritingLaws.{only_said}
use Rattle.hg_params.proofs.laws.only_what_headers_say_is_written.Goals as goal

pub returns : goal.returns
returns g c = λ kind id params bytes h. only_said kind id params bytes h
