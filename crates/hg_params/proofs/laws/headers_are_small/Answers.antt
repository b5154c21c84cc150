use Rattle.hg_params.proofs.SizeLaws.{header_small}
use Rattle.hg_params.proofs.laws.headers_are_small.Goals as goal

pub returns : goal.returns
returns g c = λ bytes head h. header_small bytes head h
