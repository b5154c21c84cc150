-- Records that are run as pushes.
use Rattle.std.specs.Prelude.{ℕ, ◌≡◌, ◌<◌, List, [], ◌∷◌, Ok, Err, length, slice_index_or, take, ⊤}
use Rattle.hg_types.specs.declared.limits.Limits.{Limits}
use Rattle.hg_types.specs.declared.part.Part.{Part}
use Rattle.hg_parts.specs.declared.refusal.Refusal.{Refusal}
use Rattle.hg_repo.specs.declared.done.Done.{Done}
use Rattle.hg_store.specs.Entries.{Entry}
use Rattle.hg_stream.specs.Frames.{IsBundle}
use Rattle.hg_push.specs.Run.{RepositoryOf, run_push}
use Rattle.hg_recovery.specs.declared.restore.RestoreFault.{RestoreFault}
use Rattle.hg_recovery.specs.declared.restore.RestoreFault.TheVariants.{NoBundle, Refused, NoMemory}

-- The bytes are a bundle, and its parts, run as a push, are done and lead from the first repository to the
-- last.
pub record ReplaysOne {A : Type 0} (limits : Limits) (first : RepositoryOf A) (bytes : List ℕ)
    (last : RepositoryOf A) : Type 0 where
  pub parts : List (Part A)
  pub bundle : IsBundle limits bytes parts
  pub done : Done A
  pub ran : run_push first parts ≡ Ok (last, done)

-- The records, run one by one, lead from the first repository to the last.
abbrev pub Replays : {A : Type 0} → Limits → RepositoryOf A → List Entry → RepositoryOf A → Type 0
Replays limits first [] last = first ≡ last
Replays {A} limits first (entry ∷ others) last =
    (mid : RepositoryOf A) × ReplaysOne limits first entry.bundle mid × Replays limits mid others last

-- each record has the bundle of the push in its place
abbrev pub AreBundlesOf : {A : Type 0} → Limits → (ℕ → List (Part A)) → List ℕ → List Entry → Type 0
AreBundlesOf limits of [] [] = ⊤
AreBundlesOf limits of (push ∷ journal) (entry ∷ others) =
    IsBundle limits entry.bundle (of push) × AreBundlesOf limits of journal others
AreBundlesOf limits of journal others = ⊥

-- the bytes are no whole bundle within the limits
abbrev pub IsNoBundle : Type 0 → Limits → List ℕ → Type 0
IsNoBundle A limits bytes = (parts : List (Part A)) → IsBundle limits bytes parts → ⊥

-- why the record at a place, with these bytes, gives no parts; of memory nothing is said
abbrev pub IsUnread : Type 0 → RestoreFault → ℕ → Limits → List ℕ → Type 0
IsUnread A (NoBundle at) place limits bytes = (at ≡ place) × IsNoBundle A limits bytes
IsUnread A (Refused at) place limits bytes = ⊥
IsUnread A NoMemory place limits bytes = ⊤

-- The bytes are a bundle, whose push the repository refuses.
pub record IsRefused {A : Type 0} (limits : Limits) (repo : RepositoryOf A) (bytes : List ℕ) : Type 0 where
  pub parts : List (Part A)
  pub bundle : IsBundle limits bytes parts
  pub refusal : Refusal A
  pub ran : run_push repo parts ≡ Err refusal

-- why the record at a place, with these bytes, is not run on that repository; of memory nothing is said
abbrev pub IsUnrun : {A : Type 0} → RestoreFault → ℕ → Limits → RepositoryOf A → List ℕ → Type 0
IsUnrun {A} (NoBundle at) place limits repo bytes = (at ≡ place) × IsNoBundle A limits bytes
IsUnrun (Refused at) place limits repo bytes = (at ≡ place) × IsRefused limits repo bytes
IsUnrun NoMemory place limits repo bytes = ⊤

-- The records before one were run, and lead from the first repository to the last. That one, at this place, was
-- not run on the last, for that reason.
pub record StopsAt {A : Type 0} (limits : Limits) (first : RepositoryOf A) (records : List Entry)
    (fault : RestoreFault) (last : RepositoryOf A) : Type 0 where
  pub place : ℕ
  pub entry : Entry
  pub more : place < length records
  pub at : entry ≡ slice_index_or records place entry
  pub ran : Replays limits first (take place records) last
  pub unrun : IsUnrun fault place limits last entry.bundle
