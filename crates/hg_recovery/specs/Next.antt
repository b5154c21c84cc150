-- One record that is read and run.
use Rattle.std.specs.Prelude.{ℕ, ◌≡◌, List, [], ◌∷◌, ◌++◌, Bool, true, false}
use Rattle.hg_push.specs.Run.{RepositoryOf}
use Rattle.hg_store.specs.Entries.{Entry}
use Rattle.hg_store.specs.Openings.{HasEnded, HasRead}
use Rattle.hg_store.specs.declared.front.Opening.{Opening}
use Rattle.hg_store.specs.declared.head.Setup.{Setup}
use Rattle.hg_recovery.specs.Replays.{IsUnrun, ReplaysOne}
use Rattle.hg_recovery.specs.declared.restore.RestoreFault.{RestoreFault}

-- One more record was read, and run on the repository, which led to another.
pub record RunsOne {C A : Type 0} (old new : Opening C A) (before after : RepositoryOf A) : Type 0 where
  pub entry : Entry
  pub more : new.records.entries ≡ old.records.entries ++ entry ∷ []
  pub ran : ReplaysOne before.settings.limits before entry.bundle after

-- the next record was read and run, or there is none, and the repository is as it was
abbrev pub RunsNext : {C A : Type 0} → (C → List ℕ) → Setup → Bool → Opening C A → Opening C A → RepositoryOf A
    → RepositoryOf A → Type 0
RunsNext drawn setup true old new before after = HasRead drawn setup [] new × RunsOne old new before after
RunsNext drawn setup false old new before after =
    HasEnded drawn setup new × (new.records.entries ≡ old.records.entries) × (after ≡ before)

-- One more record was read, and is not run on the repository, for that reason.
pub record IsNextUnrun {C A : Type 0} (drawn : C → List ℕ) (setup : Setup) (fault : RestoreFault)
    (old new : Opening C A) (repo : RepositoryOf A) : Type 0 where
  pub read : HasRead drawn setup [] new
  pub entry : Entry
  pub more : new.records.entries ≡ old.records.entries ++ entry ∷ []
  pub unrun : IsUnrun fault old.stored repo.settings.limits repo entry.bundle
