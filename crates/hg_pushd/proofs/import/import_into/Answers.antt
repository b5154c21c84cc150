use Rattle.hg_recovery.specs.Opening.{head_of}
use Rattle.hg_pushd.proofs.import.import_into.Goals as goal

pub import_files-place-requires-clause-settled : goal.import_files-place-requires-clause-settled
import_files-place-requires-clause-settled g c = (
  head_of c.args.recovered.publishing c.args.recovered.identity,
  c.args.recovered.records.entries,
  c.requires.settled,
  c.requires.count,
)
