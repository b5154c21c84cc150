use Rattle.hg_theorems.proofs.Bytes.{below_256}
use Rattle.hg_theorems.proofs.values.bytes_are_below_256.Goals as goal

pub returns : goal.returns
returns c = below_256
