-- The set of the changesets that are not obsolete.
use Rattle.std.specs.Prelude.{◌≡◌, ℕ, List}
use Rattle.std.specs.Int.{bit_at}
use Rattle.hg_log.specs.Changeset.{Changeset}
use Rattle.hg_types.specs.declared.phase.Phase.{Phase}
use Rattle.hg_obs.specs.declared.marker.Marker.{Marker}
use Rattle.hg_wireproto.specs.Hidden.{IsObsolete}

-- the lowest bit says whether the changeset is kept
pub record TellsKept {A : Type 0} (rows : List Changeset) (markers : List (Marker A)) (phases : List Phase)
    (r sets : ℕ) : Type 0 where
  pub obsolete : bit_at sets 0 ≡ 0 → IsObsolete rows markers phases r
  pub kept : bit_at sets 0 ≡ 1 → ¬ (IsObsolete rows markers phases r)
