use Rattle.std.proofs.Common.{◌≡◌, drop}
use Rattle.hg_obs.specs.Marker.{is_metadata}
use Rattle.hg_obs.proofs.MetadataLemmas.{goes_on, pieces}
use Rattle.hg_obs.proofs.read.is_metadata.Given as goal

abbrev pub invariant-loop-byte : goal.invariant-loop-byte
invariant-loop-byte l = goes_on l.piece (pieces (drop l.byte-index l.meta)) ≡ is_metadata l.meta
