use Rattle.hg_stream.proofs.OneBundle.{one_bundle}
use Rattle.hg_stream.proofs.laws.bundles_are_read_in_one_way.Goals as goal

pub returns : goal.returns
returns g c = one_bundle _
