-- What is kept of a push: its bundle, when it came, and who pushed it.
use Rattle.std.specs.Prelude.{ℕ, ◌<◌, ◌^◌, List, [], ◌∷◌, length}

-- When a push came, in milliseconds since 1970, and the name of who pushed: 0 and no bytes where they are not known.
pub record Stamp : Type 0 where
  pub time : ℕ
  pub name : List ℕ

-- each can be written
pub record IsStamp (stamp : Stamp) : Type 0 where
  pub time : stamp.time < 2 ^ 64
  pub name : length stamp.name < 2 ^ 8

-- A record of a store: the bundle of a push, byte for byte as it came, and its stamp.
pub record Entry : Type 0 where
  pub stamp : Stamp
  pub bundle : List ℕ

-- the bundles of records, in their order
abbrev pub bundles_of : List Entry → List (List ℕ)
bundles_of [] = []
bundles_of (first ∷ others) = first.bundle ∷ bundles_of others
