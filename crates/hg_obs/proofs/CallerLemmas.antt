-- What a caller cites of a merge: what holds of each marker of a list, and of each that is merged, holds of
-- each afterwards.
use Rattle.std.proofs.Common.{not, List}
use Rattle.std.specs.List.{AllByRecursion}
use Rattle.hg_obs.specs.declared.marker.Marker.{Marker}
use Rattle.hg_obs.specs.Markers.{is_in, firsts, fresh, merged}
use Rattle.hg_obs.proofs.EachLemmas.{each_append, each_filter, each_firsts}

module _ {A : Type 0} (P : Marker A → Type 0) where
  pub each_merged : (old added : List (Marker A)) → AllByRecursion P old → AllByRecursion P added
      → AllByRecursion P (merged old added)
  each_merged old added h k =
      each_append P old (fresh old added) h
      (each_filter P (λ m. not (is_in old m)) (firsts added) (each_firsts P added k))
