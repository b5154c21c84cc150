use Rattle.hg_stream.proofs.Few.{few}
use Rattle.hg_stream.proofs.laws.parts_are_few.Goals as goal

pub returns : goal.returns
returns g c = λ limits state bytes parts tells. few state limits bytes parts tells
