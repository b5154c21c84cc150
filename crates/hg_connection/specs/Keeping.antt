-- What is received of a bundle whose bytes are kept.
use Rattle.std.specs.Prelude.{ℕ, ◌≡◌, List}
use Rattle.hg_types.specs.declared.limits.Limits.{Limits}
use Rattle.hg_serve.specs.Clients.{SenderView}
use Rattle.hg_connection.specs.Devices.{Input}
use Rattle.hg_connection.specs.declared.bundle_end.BundleEnd.{BundleEnd}
use Rattle.hg_connection.specs.declared.bundle_end.BundleEnd.TheVariants.{Whole}
use Rattle.hg_connection.specs.Steps.{Receives}

-- A bundle was received from that reader, and its parts were put. Where it was read to its end mark, what was
-- kept are its bytes, and no others.
pub record ReceivesKept {A : Type 0} (limits : Limits) (waited waiting : List ℕ) (input left : Input)
    (old new : SenderView A) (ending : BundleEnd) (kept : List ℕ) : Type 0 where
  pub is : Receives limits waited waiting input left old new ending
  pub kept_is : ending ≡ Whole → kept ≡ is.bundle.consumed
