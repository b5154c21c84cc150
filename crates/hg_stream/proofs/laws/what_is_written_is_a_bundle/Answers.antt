use Rattle.hg_stream.proofs.WrittenBundles.{written_is_bundle}
use Rattle.hg_stream.proofs.laws.what_is_written_is_a_bundle.Goals as goal

pub returns : goal.returns
returns g c = written_is_bundle
