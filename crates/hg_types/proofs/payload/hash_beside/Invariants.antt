use Rattle.std.proofs.Common.{ℕ, ◌<◌, length}
use Rattle.std.proofs.Math.ListN.{get_or}
use Rattle.hg_digests.specs.declared.place.Place.{Place}
use Rattle.hg_digests.specs.Messages.{IsWithin}
use Rattle.hg_types.proofs.payload.hash_beside.Given as goal

abbrev pub invariant-places : goal.invariant-places
invariant-places g l = (k : ℕ) (d : Place) → k < l.place-index → IsWithin (length l.bytes) (get_or l.places k d)
