-- Servers one after the other over one store, each opened from what the one before it had left.
use Rattle.std.specs.Prelude.{ℕ, ◌≡◌, ◌≤◌, ◌<◌, ◌==◌, ⊤, Bool, if◌then◌else◌, List, [], ◌∷◌, ◌++◌, All, length, Contains}
use mathlib.Core.List.{IsPrefix}
use Rattle.hg_parts.specs.declared.item.Taken.{Taken}
use Rattle.hg_store.specs.Entries.{Entry}
use Rattle.hg_store.specs.declared.head.Head.{Head}
use Rattle.hg_store.specs.Files.{StandsFor}
use Rattle.hg_push.specs.Places.{IsPlace}
use Rattle.hg_push.specs.Run.{RepositoryOf, run_push}
use Rattle.hg_serve.specs.Histories.{newest_first}
use Rattle.hg_commit.specs.Clients.{KeptSeen}
use Rattle.hg_commit.specs.Orders.{Asked, Began, Came, Event, Promised, ReceiptView}
use Rattle.hg_commit.specs.Promises.{Promise}
use Rattle.hg_durable.specs.Closing.{ClosesKept}
use Rattle.hg_recovery.specs.Opening.{IsRecovered}
use Rattle.hg_recovery.specs.Replays.{Replays}
use Rattle.hg_theorems.specs.Recovering.{IsAfter, IsAmong}

-- ---- what a later server has

-- A server over a store: the records that this had when the server opened it, the repository that it began with, and the
-- moment of its device then. And how it ended: its clients with what they were answered, the whole history, how many
-- records were brought to its device, and that.
pub record Server (A D : Type 0) : Type 0 where
  pub stored : List Entry
  pub first : RepositoryOf A
  pub opened : ℕ
  pub clients : List (KeptSeen A)
  pub whole : List (Taken A)
  pub kept : ℕ
  pub device : D

-- The records of the store led to its first repository, and it ended as the call that closes a server says.
pub record HasServed {A D : Type 0} (moment : D → ℕ) (left_since : D → ℕ → List ℕ → Type 0)
    (may_leave : D → List ℕ → Type 0) (publishing : Bool) (head : Head) (s : Server A D) : Type 0 where
  pub recovered : IsRecovered publishing head s.stored s.first
  pub closes : ClosesKept moment left_since may_leave head s.stored s.first s.opened s.clients s.whole s.kept s.device

-- A server was opened from a file which another one left: since it had opened the store itself, and since each promise
-- that its clients have. None of these was made later, since no write and no sync of it answered Ok after the file was
-- read.
pub record TakesOver {A D : Type 0} (left_since : D → ℕ → List ℕ → Type 0) (head : Head)
    (before after : Server A D) : Type 0 where
  pub file : List ℕ
  pub stands : StandsFor head after.stored file
  pub since_opening : left_since before.device before.opened file
  pub since_promises : All (λ c. All (λ p. left_since before.device p.moment file) c.receipt.promises) before.clients

-- these servers, the first one and each of the others, had the store one after the other
abbrev pub AreInARow : {A D : Type 0} → (D → ℕ) → (D → ℕ → List ℕ → Type 0) → (D → List ℕ → Type 0) → Bool →
    Head → Server A D → List (Server A D) → Type 0
AreInARow moment left_since may_leave publishing head s [] =
    HasServed moment left_since may_leave publishing head s
AreInARow moment left_since may_leave publishing head s (next ∷ others) =
    HasServed moment left_since may_leave publishing head s × TakesOver left_since head s next
    × AreInARow moment left_since may_leave publishing head next others

-- Of a promise that a client of a server has, so many records of the server's journal have what it counts: each push that
-- is done by what the client has seen, at a place that it counts, is one of these.
pub record IsPassedOn {A : Type 0} (first : RepositoryOf A) (h : List (Taken A)) (count : ℕ) (client : KeptSeen A)
    (promise : Promise) : Type 0 where
  pub enough : promise.count ≤ count
  pub among : (p place : ℕ) → IsPlace run_push first (newest_first client.history) p place → place < promise.count
      → IsAmong first client.history h count p place

-- A later server began with all that an earlier one had answered. Its records are those that the earlier one began with,
-- then those of the first pushes of the journal of one history, which begins the earlier one's, and then more. Run in that
-- order they lead to the repository that it began with. Whatever the earlier one's clients were answered rests on pushes
-- that are among these.
pub record HasAllOf {A D : Type 0} (head : Head) (before after : Server A D) : Type 0 where
  pub h : List (Taken A)
  pub begins : IsPrefix h before.whole
  pub records : List Entry
  pub more : List Entry
  pub goes_on : after.stored ≡ before.stored ++ (records ++ more)
  pub repo : RepositoryOf A
  pub led_to : IsAfter before.first h (length records) repo
  pub led_on : Replays head.limits repo more after.first
  pub each : All (λ c. All (IsPassedOn before.first h (length records) c) c.receipt.promises) before.clients

-- each of these servers began with all that each one before it had answered
abbrev pub EachHasAllBefore : {A D : Type 0} → Head → Server A D → List (Server A D) → Type 0
EachHasAllBefore head s [] = ⊤
EachHasAllBefore head s (next ∷ others) =
    All (HasAllOf head s) (next ∷ others) × EachHasAllBefore head next others

-- ---- what happened at all of them, in one order

-- the server of that number opened the store, or something happened at its tally
pub data Happening : Type 0 where
  Opened : ℕ → Happening
  Tallied : ℕ → Event → Happening

-- what happened at the tally of that server
abbrev pub order_of : ℕ → List Happening → List Event
order_of number [] = []
order_of number (Opened at ∷ later) = order_of number later
order_of number (Tallied at event ∷ later) =
    (if at == number then event ∷ [] else []) ++ order_of number later

-- how many beats the device of a tally had had, each time that a write to it began or a promise was made
abbrev pub beats_said : List Event → List ℕ
beats_said [] = []
beats_said (Promised promise ∷ later) = promise.beats ∷ beats_said later
beats_said (Came seat ∷ later) = beats_said later
beats_said (Began beats ∷ later) = beats ∷ beats_said later
beats_said (Asked seat ∷ later) = beats_said later

-- the server of that number opened the store between these
abbrev pub OpensBetween : List Happening → ℕ → List Happening → List Happening → Type 0
OpensBetween early number late all = all ≡ early ++ Opened number ∷ late

-- **The premise of the holder.** Once a later server has opened the store, no write of an earlier one ends well. So its
-- device has no beat more: whatever happens at its tally from then on says as many.
abbrev pub HoldsAlone : List Happening → Type 0
HoldsAlone all = (early late : List Happening) (number other : ℕ) → OpensBetween early number late all →
    other < number → (beats : ℕ) × All (λ said. said ≡ beats) (beats_said (order_of other late))

-- nothing happens at the tally of a server before it has opened the store
abbrev pub OpensFirst : List Happening → Type 0
OpensFirst all = (early late : List Happening) (number : ℕ) (e : Event) →
    all ≡ early ++ Tallied number e ∷ late → Contains early (Opened number)

-- A request came to a server, as the last that the client of this receipt had seen, after another server, or the same one,
-- had made that promise.
pub record CameBehind (all : List Happening) (other : ℕ) (p : Promise) (number : ℕ) (asked : ReceiptView) : Type 0
  where
    pub early : List Happening
    pub between : List Happening
    pub seat : ℕ
    pub late : List Happening
    pub spelled : all
        ≡ early ++ Tallied other (Promised p) ∷ (between ++ Tallied number (Came seat) ∷ late)
    pub seen : asked.order ≡ order_of number (early ++ Tallied other (Promised p) ∷ between) ++ Came seat ∷ []
