use Rattle.std.proofs.Common.{refl}
use Rattle.hg_params.specs.Header.{spelling}
use Rattle.hg_params.specs.Writing.{cased, header_bytes}
use Rattle.hg_web.proofs.serve.lost.Goals as goal

pub returns : goal.returns
unfolding header_bytes spelling cased
returns c = refl
