-- What adding the entries of a changegroup, by code, gives and leaves.
use Rattle.std.specs.Prelude.{◌≡◌, ◌⊎◌, MatchResult, ℕ, List, map, Result, Ok, Err}
use Rattle.hg_types.specs.declared.entry.Entry.{Entry}
use Rattle.hg_log.specs.declared.add.AddFault.{AddFault}
use Rattle.hg_log.specs.declared.add.AddFault.TheVariants.{NoMemory}
use Rattle.hg_parts.specs.declared.store.Store.{Store}
use Rattle.hg_parts.specs.declared.refusal.Refusal.{Refusal}
use Rattle.hg_parts.specs.declared.refusal.Refusal.TheVariants.{BadChangeset}
use Rattle.hg_parts.specs.declared.refusal.Refusal.TheVariants.{NoMemory as OutOfMemory}
use Rattle.hg_parts.specs.parts.Changegroup.{Grown}

-- a fault as the refusal of its part; out of memory is reported as such
abbrev pub refusal_for : {A : Type 0} → ℕ → AddFault → Refusal A
refusal_for place NoMemory = OutOfMemory
refusal_for place fault = BadChangeset place fault

-- What adding by code may answer and leave: what the definition says, or that memory was refused.
abbrev pub AddGives : Result Grown AddFault → Grown → Result (Unit {0}) AddFault → Type 0
AddGives given new result =
    MatchResult result (λ done. given ≡ Ok new) (λ fault. (fault ≡ NoMemory) ⊎ (given ≡ Err fault))

-- a store's rows and their phases
abbrev pub grown_of : {A : Type 0} → Store A → Grown
grown_of store = record { rows = store.log.rows; phases = store.phases.current.phases }

-- markers and bookmarks are as they were
pub record AreOthersSame {A : Type 0} (old new : Store A) : Type 0 where
  pub markers : new.markers ≡ old.markers
  pub bookmarks : new.bookmarks ≡ old.bookmarks

-- entries of the same ids, in their order, whatever their deltas are
abbrev pub AreOfSameIds : {A : Type 0} → List (Entry A) → List (Entry A) → Type 0
AreOfSameIds old new = map (λ entry. entry.node) new ≡ map (λ entry. entry.node) old
