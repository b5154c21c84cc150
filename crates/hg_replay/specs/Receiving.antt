-- What is received of a push.
use Rattle.std.specs.Prelude.{ℕ, List, []}
use Rattle.hg_types.specs.declared.part.Part.{Part}
use Rattle.hg_types.specs.declared.limits.Limits.{Limits}
use Rattle.hg_connection.specs.Devices.{Input}
use Rattle.hg_connection.specs.declared.bundle_end.BundleEnd.{BundleEnd}
use Rattle.hg_connection.specs.Receiving.{IsReceivedFrom}

-- A push was received from that reader, where no bytes waited before. What waits after it is dropped.
abbrev pub Received : {A : Type 0} → Limits → Input → Input → BundleEnd → List (Part A) → Type 0
Received limits before after ending parts = (dropped : List ℕ)
    × IsReceivedFrom limits [] dropped before after ending parts
