use Rattle.hg_stream.proofs.Lengths.{short_if_bare}
use Rattle.hg_stream.proofs.laws.bundles_of_bare_parts_are_short.Goals as goal

pub returns : goal.returns
returns g c = short_if_bare
