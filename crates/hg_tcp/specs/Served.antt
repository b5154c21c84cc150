-- The client of a connection that is over.
use Rattle.std.specs.Prelude.{ℕ, List, []}
use Rattle.hg_parts.specs.declared.item.Taken.{Taken}
use Rattle.hg_parts.specs.Repository.{Repository}
use Rattle.hg_connection.specs.Devices.{Input, Output}
use Rattle.hg_connection.specs.declared.served.Served.{Served}
use Rattle.hg_connection.specs.Connections.{Connects}

-- A new client of the server was served from some reader to some writer, of up to so many bundles, and has seen
-- this history then: that of the last bundle that it was answered.
pub record WasServed {A : Type 0} (capacity : ℕ) (first : Repository A) (bundles : ℕ)
    (after : List (Taken A)) : Type 0 where
  pub input : Input
  pub left : Input
  pub out : Output
  pub sent : Output
  pub served : Served A
  pub connects : Connects first.settings.limits capacity first bundles input left out sent [] after served
