-- The end of a server whose pushes are kept. An end that leaves a file is that of the process or of the machine.
use Rattle.std.specs.Prelude.{ℕ, List, All}
use mathlib.Core.List.{IsPrefix}
use Rattle.hg_parts.specs.declared.item.Taken.{Taken}
use Rattle.hg_store.specs.Entries.{Entry}
use Rattle.hg_store.specs.declared.head.Head.{Head}
use Rattle.hg_push.specs.Run.{RepositoryOf}
use Rattle.hg_commit.specs.Clients.{KeptSeen}
use Rattle.hg_commit.specs.Lives.{IsKeptSince, IsLeftSince, Lives}
use Rattle.hg_commit.specs.Orders.{Event}

-- What the client has seen begins the whole history, and what it has seen of all promises and requests begins the one
-- order of these. And of each promise that its receipt has: its moment is over, and whatever an end might have left
-- since then, and what one leaves from now on, has the records of as many pushes as the promise counts, of those that
-- the client has seen done.
pub record IsLeft {A D : Type 0} (moment : D → ℕ) (left_since : D → ℕ → List ℕ → Type 0)
    (may_leave : D → List ℕ → Type 0) (head : Head) (stored : List Entry) (first : RepositoryOf A)
    (whole : List (Taken A)) (order : List Event) (device : D) (client : KeptSeen A) : Type 0 where
  pub begins : IsPrefix client.history whole
  pub seen : IsPrefix client.receipt.order order
  pub each : All (IsLeftSince moment left_since may_leave head stored first client.history device)
      client.receipt.promises

-- All that these clients were answered rests on is left by every end since they were answered. All promises, and all
-- requests of these clients that came, have one order. And whatever an end might have left since the log was opened is
-- a front of the journal of one history, which begins the whole one too. By that history each promise that these
-- clients have is kept: whatever an end might have left since it is a front with as many pushes as it counts.
pub record ClosesKept {A D : Type 0} (moment : D → ℕ) (left_since : D → ℕ → List ℕ → Type 0)
    (may_leave : D → List ℕ → Type 0) (head : Head) (stored : List Entry) (first : RepositoryOf A)
    (opened : ℕ) (clients : List (KeptSeen A)) (whole : List (Taken A)) (kept : ℕ) (device : D) : Type 0 where
  pub order : List Event
  pub each : All (IsLeft moment left_since may_leave head stored first whole order device) clients
  pub witness : List (Taken A)
  pub begins : IsPrefix witness whole
  pub life : Lives moment left_since may_leave head stored first opened witness kept device
  pub kept_since : All (λ c. All (IsKeptSince moment left_since head stored first witness kept device)
      c.receipt.promises) clients
