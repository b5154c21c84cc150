-- A store that is followed and then taken over, and the repository that its records lead to.
use Rattle.std.specs.Prelude.{ℕ, ◌≡◌, Bool, true, false, List, [], ◌∷◌, ◌++◌}
use Rattle.hg_types.specs.Limits.{standard_limits}
use Rattle.hg_store.specs.Calls.{Event, was_held}
use Rattle.hg_store.specs.Entries.{Entry}
use Rattle.hg_store.specs.Openings.{HasRead, IsFound}
use Rattle.hg_store.specs.Standbys.{StandsStill}
use Rattle.hg_store.specs.Tails.{LosesNothing}
use Rattle.hg_store.specs.declared.front.Opening.{Opening}
use Rattle.hg_store.specs.declared.head.Head.{Head}
use Rattle.hg_push.specs.Run.{RepositoryOf}
use Rattle.hg_recovery.specs.Opening.{empty_repository, setup_for}
use Rattle.hg_recovery.specs.Replays.{Replays}

-- Records, run one by one on the empty repository of such a server, lead to this one.
pub record WereRun {A : Type 0} (publishing : Bool) (records : List Entry) (repo : RepositoryOf A) : Type 0 where
  pub ran : Replays standard_limits (empty_repository (setup_for publishing)) records repo
  pub settings : repo.settings ≡ (empty_repository {A = A} (setup_for publishing)).settings

-- The head of a store of such a server was read and these records, and they lead to the repository.
pub record IsFollowed {C A R : Type 0} (drawn : C → List ℕ) (publishing : Bool) (opening : Opening C A)
    (repo : RepositoryOf R) : Type 0 where
  pub read : HasRead drawn (setup_for publishing) [] opening
  pub were : WereRun publishing opening.records.entries repo

-- one more record is among those that were run, or none
abbrev pub IsOneMore : Bool → List Entry → List Entry → Type 0
IsOneMore true old new = (entry : Entry) × (new ≡ old ++ entry ∷ [])
IsOneMore false old new = new ≡ old

-- A store of which these records had been run was read on and opened: they are the first of those that were found in
-- it, and no byte of it was lost.
pub record IsOpenedOn (head : Head) (run records : List Entry) (before now done : List Event) : Type 0 where
  pub more : List Entry
  pub goes_on : records ≡ run ++ more
  pub found : IsFound head records before now
  pub tail : LosesNothing before now done

-- A store was taken over, of which these records had been run. It was held, and then it was looked at, and these
-- records stand in it still. What it is served with was found in it after that, and these records are its first.
pub record IsTakenOver (head : Head) (run records : List Entry) (done now : List Event) : Type 0 where
  pub before : List Event
  pub stands : StandsStill head run (was_held ∷ []) before
  pub opened : IsOpenedOn head run records before now done
