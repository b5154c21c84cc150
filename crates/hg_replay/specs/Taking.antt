-- What a book has taken of one push, after what it took before.
use Rattle.std.specs.Prelude.{ℕ, ◌≡◌, ◌+◌, true, List, [], ◌∷◌, ◌++◌, map, Some}
use Rattle.hg_types.specs.Limits.{standard_limits}
use Rattle.hg_types.specs.declared.part.Part.{Part}
use Rattle.hg_parts.specs.declared.item.Item.{Item}
use Rattle.hg_repo.specs.declared.done.Done.{Done}
use Rattle.hg_parts.specs.declared.refusal.Refusal.{Refusal}
use Rattle.hg_push.specs.Book.{HoldsHistory, is_opened}
use Rattle.hg_push.specs.History.{History, IsHistory, outcome}
use Rattle.hg_push.specs.Reply.{CanBeTold}
use Rattle.hg_push.specs.declared.outcome.Outcome.{Outcome}
use Rattle.hg_push.specs.Run.{BookOf, RepositoryOf, run_push}
use Rattle.hg_push.specs.World.{items_in}
use Rattle.hg_connection.specs.Devices.{Input}
use Rattle.hg_connection.specs.declared.bundle_end.BundleEnd.{BundleEnd}
use Rattle.hg_connection.specs.Receiving.{mark_of, push_items}
use Rattle.hg_replay.specs.Receiving.{Received}

-- The book, over that first repository, has taken these items after the history before, and has a row for
-- that push and no other.
pub record HasTaken {A : Type 0} (first : RepositoryOf A) (before : History A) (push : ℕ) (book : BookOf A)
    (items : List (Item A)) : Type 0 where
  pub places : History A
  pub items_are : items_in places ≡ items
  pub holds : HoldsHistory run_push first (places ++ before) book
  pub opened : is_opened book push ≡ true
  pub rows : map (λ r. r.push) book.rows ≡ push ∷ []

-- After that history these items of a push were taken, over that first repository. They end the push so, in
-- a way that can be reported.
pub record PushEnds {A : Type 0} (first : RepositoryOf A) (before : History A) (push : ℕ) (items : List (Item A))
    (how : Outcome (Done A) (Refusal A)) : Type 0 where
  pub places : History A
  pub items_are : items_in places ≡ items
  pub legal : IsHistory (places ++ before)
  pub ended : outcome run_push first push (places ++ before) ≡ Some how
  pub told : CanBeTold how

-- The book holds that history over that first repository, and no push has a row.
pub record IsIdle {A : Type 0} (first : RepositoryOf A) (history : History A) (book : BookOf A) : Type 0 where
  pub holds : HoldsHistory run_push first history book
  pub rows : book.rows ≡ []

-- The push ended so, and the book is idle after it.
pub record PushLeaves {A : Type 0} (first : RepositoryOf A) (before : History A) (push : ℕ)
    (items : List (Item A))
    (how : Outcome (Done A) (Refusal A)) (book : BookOf A) : Type 0 where
  pub ends : PushEnds first before push items how
  pub idle : IsIdle first (ends.places ++ before) book

-- The next push was received, run on the repository of an idle book, and ended so.
pub record PushTakes {A : Type 0} (input left : Input) (old new : BookOf A) (ending : BundleEnd)
    (how : Outcome (Done A) (Refusal A)) : Type 0 where
  pub parts : List (Part A)
  pub received : Received standard_limits input left ending parts
  pub next : new.next ≡ old.next + 1
  pub leaves : (first : RepositoryOf A) (before : History A) → IsIdle first before old
      → PushLeaves first before old.next (push_items old.next parts (mark_of ending)) how new
