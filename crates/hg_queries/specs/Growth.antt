-- How a repository grows.
use mathlib.Core.List.{IsPrefix}
use Rattle.hg_parts.specs.Repository.{Repository}
use Rattle.hg_wireproto.specs.Viewed.{StayPublic}

-- changesets and markers came at their ends, if at all, and changesets that were public are public
pub record IsGrown {A : Type 0} (old new : Repository A) : Type 0 where
  pub rows : IsPrefix old.rows new.rows
  pub markers : IsPrefix old.markers new.markers
  pub phases : StayPublic old.phases new.phases
