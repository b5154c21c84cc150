-- What a door reports of how it was used, and on which terms.
use Rattle.std.specs.Prelude.{ℕ, ◌≡◌, ◌<◌, ◌≤◌, ◌⊎◌, List, [], ◌∷◌, ◌++◌, Bool, true, false, zero}
use Rattle.std.specs.Prelude.{suc, Option}
use Rattle.hg_connection.specs.Devices.{TellsMore}
use Rattle.hg_tcp.specs.declared.terms.ServeTerms.{ServeTerms}

-- How a door was used: whether it accepted a connection; whether it heard that one is served, on these terms;
-- and whether it heard that memory was refused for one.
pub data DoorUse : Type 0 where
  Accepted : Bool → DoorUse
  Started : ServeTerms → Bool → DoorUse
  AllOver : Bool → DoorUse

-- the nearest number to the one asked for, of 1 to the greatest
pub record IsNearest (greatest asked used : ℕ) : Type 0 where
  pub least : 1 ≤ used
  pub most : used ≤ greatest
  pub lowered : used < asked → used ≡ greatest
  pub raised : asked < used → used ≡ 1

-- the terms that were asked for, with a number out of its range put to its nearest end
pub record IsBounded (asked used : ServeTerms) : Type 0 where
  pub connections : used.connections ≡ asked.connections
  pub capacity : IsNearest 65536 asked.capacity used.capacity
  pub bundles : IsNearest 10000 asked.bundles used.bundles

-- so many connections, one after another, were each accepted and started
abbrev pub served : ℕ → ServeTerms → List DoorUse
served zero terms = []
served (suc count) terms = Accepted true ∷ Started terms true ∷ served count terms

-- a connection that was not accepted, or one that was and was not started
abbrev pub ConnectionFails : ServeTerms → List DoorUse → Type 0
ConnectionFails terms last = (last ≡ Accepted false ∷ []) ⊎ (last ≡ Accepted true ∷ Started terms false ∷ [])

-- one connection was asked for
abbrev pub Admits : Option (List DoorUse) → Option (List DoorUse) → ServeTerms → Bool → Type 0
Admits before after terms true = TellsMore before after (Accepted true ∷ Started terms true ∷ [])
Admits before after terms false = (last : List DoorUse) × TellsMore before after last × ConnectionFails terms last

-- Without a failure as many were served as were asked for. With one, fewer were, and one more failed.
abbrev pub AsksUpTo : ServeTerms → Bool → ℕ → List DoorUse → Type 0
AsksUpTo terms false count last = (count ≡ terms.connections) × (last ≡ [])
AsksUpTo terms true count last = (count < terms.connections) × ConnectionFails terms last

-- A door was asked for the connections of a service of these terms, one after another, and after one that
-- failed no more.
pub record AsksFor (terms : ServeTerms) (failed : Bool) (uses : List DoorUse) : Type 0 where
  pub count : ℕ
  pub last : List DoorUse
  pub uses_are : uses ≡ served count terms ++ last
  pub ends : AsksUpTo terms failed count last

-- the same, as the door reports it
abbrev pub AdmitsAll : Option (List DoorUse) → Option (List DoorUse) → ServeTerms → Bool → Type 0
AdmitsAll before after terms failed = (uses : List DoorUse) × TellsMore before after uses × AsksFor terms failed uses
