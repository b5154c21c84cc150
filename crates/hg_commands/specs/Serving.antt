-- A repository that is served, from its seed to its report.
use Rattle.std.specs.Prelude.{ℕ, ◌≡◌, List, Bool, Option, Some, None, Result, Ok, Err}
use Rattle.hg_parts.specs.declared.item.Taken.{Taken}
use Rattle.hg_parts.specs.Repository.{Repository}
use Rattle.hg_connection.specs.Devices.{Input, Output}
use Rattle.hg_tcp.specs.declared.terms.ServeTerms.{ServeTerms}
use Rattle.hg_tcp.specs.Accepting.{DoorUse}
use Rattle.hg_tcp.specs.Closing.{EndsService}
use Rattle.hg_replay.specs.declared.seed.SeedFault.{SeedFault}
use Rattle.hg_replay.specs.declared.seed.SeedFault.TheVariants.{Aborted, ReadFailed, NoMemory}
use Rattle.hg_replay.specs.Answering.{empty_repository}
use Rattle.hg_replay.specs.Seeding.{Seeds}

-- the repository before the first connection: the one that the seed gives, or the empty one
abbrev pub IsFirstRepository : {A : Type 0} → Bool → Option Input → Result (Repository A) SeedFault → Type 0
IsFirstRepository publishing None first = first ≡ Ok (empty_repository publishing)
IsFirstRepository publishing (Some input) first = (left : Input) × Seeds publishing input left first

-- the status where there is no repository to begin with
abbrev pub fault_status : SeedFault → ℕ
fault_status Aborted = 1
fault_status ReadFailed = 3
fault_status NoMemory = 4

-- Without a repository no connection is asked for and nothing is written, and the status says why. With one,
-- it is served.
abbrev pub EndsFrom : {A : Type 0} → Result (Repository A) SeedFault → ServeTerms →
    (List (List (Taken A)) → Type 0) → Option (List DoorUse) → Option (List DoorUse) → Output → Output → ℕ → Type 0
EndsFrom (Ok first) terms heard door shut before after status =
    EndsService first terms heard door shut before after status
EndsFrom (Err fault) terms heard door shut before after status = (shut ≡ door) × (after ≡ before)
    × (status ≡ fault_status fault)

-- A service from that seed, if there is one, on these terms, used the door so, which heard of the clients, wrote
-- that report and has that status.
pub record Serves (A : Type 0) (publishing : Bool) (seed : Option Input) (terms : ServeTerms)
    (heard : List (List (Taken A)) → Type 0) (door shut : Option (List DoorUse)) (before after : Output)
    (status : ℕ) : Type 0 where
  pub first : Result (Repository A) SeedFault
  pub begins : IsFirstRepository publishing seed first
  pub ends : EndsFrom first terms heard door shut before after status
