use Rattle.hg_stream.proofs.WrittenBundles.{within_as_parts_are}
use Rattle.hg_stream.proofs.laws.what_is_written_is_within_as_its_parts_are.Goals as goal

pub returns : goal.returns
returns g c = within_as_parts_are
