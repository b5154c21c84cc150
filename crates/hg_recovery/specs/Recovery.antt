-- What is left of a store, and the journal that it was written for.
use Rattle.std.specs.Prelude.{ℕ, ◌++◌, ◌∷◌, [], List, take}
use Rattle.hg_types.specs.declared.limits.Limits.{Limits}
use Rattle.hg_types.specs.declared.part.Part.{Part}
use Rattle.hg_store.specs.declared.head.Head.{Head}
use Rattle.hg_store.specs.Entries.{Entry}
use Rattle.hg_store.specs.Files.{FrontIsStore, stored}
use Rattle.hg_push.specs.Changed.{OneByOne}
use Rattle.hg_push.specs.Run.{RepositoryOf, run_push}
use Rattle.hg_recovery.specs.Replays.{Replays}

-- The first n bytes of a store of these records are a store of the first of them, those that stand whole in
-- them. Run, these lead to the repository to which as many pushes of the journal lead, run one by one.
pub record FrontRuns {A : Type 0} (limits : Limits) (of : ℕ → List (Part A)) (first : RepositoryOf A)
    (journal : List ℕ) (head : Head) (records : List Entry) (n : ℕ) : Type 0 where
  pub front : FrontIsStore head records n (take n (stored head records ++ 0 ∷ []))
  pub last : RepositoryOf A
  pub serial : OneByOne run_push of first (take front.count journal) last
  pub ran : Replays limits first (take front.count records) last
