-- What happens at a tally, in one order: promises are made, requests come, writes begin, and beats are asked for.
use Rattle.std.specs.Prelude.{ℕ, ◌≡◌, ◌⊎◌, ◌≤◌, ◌<◌, ◌+◌, ◌==◌, ⊤, if◌then◌else◌, List, [], ◌∷◌, ◌++◌, All}
use Rattle.std.specs.Prelude.{Contains, IfSome, Option}
use Rattle.std.specs.Coded.{Coded, coded_list, coded⊎, coded_ℕ, code_by}
use mathlib.Core.List.{IsPrefix}
use mathlib.Core.Logic.{inl, inr}
use mathlib.Core.Path.{refl}
use Rattle.hg_commit.specs.Promises.{Promise, promise_coded}

-- A promise was made, a request came to this seat, a write began as the device had had so many beats, or a beat was asked
-- for at this seat.
pub data Event : Type 0 where
  Promised : Promise → Event
  Came : ℕ → Event
  Began : ℕ → Event
  Asked : ℕ → Event

-- the promises, as they were made
abbrev pub promises_in : List Event → List Promise
promises_in [] = []
promises_in (Promised promise ∷ later) = promise ∷ promises_in later
promises_in (Came seat ∷ later) = promises_in later
promises_in (Began beats ∷ later) = promises_in later
promises_in (Asked seat ∷ later) = promises_in later

-- how many requests came to that seat
abbrev pub comings_to : ℕ → List Event → ℕ
comings_to seat [] = 0
comings_to seat (Promised promise ∷ later) = comings_to seat later
comings_to seat (Came at ∷ later) = (if at == seat then 1 else 0) + comings_to seat later
comings_to seat (Began beats ∷ later) = comings_to seat later
comings_to seat (Asked at ∷ later) = comings_to seat later

-- how many beats were asked for at that seat
abbrev pub asks_at : ℕ → List Event → ℕ
asks_at seat [] = 0
asks_at seat (Promised promise ∷ later) = asks_at seat later
asks_at seat (Came at ∷ later) = asks_at seat later
asks_at seat (Began beats ∷ later) = asks_at seat later
asks_at seat (Asked at ∷ later) = (if at == seat then 1 else 0) + asks_at seat later

-- how many writes began
abbrev pub begun_in : List Event → ℕ
begun_in [] = 0
begun_in (Promised promise ∷ later) = begun_in later
begun_in (Came seat ∷ later) = begun_in later
begun_in (Began beats ∷ later) = 1 + begun_in later
begun_in (Asked seat ∷ later) = begun_in later

-- how many beats the device had had as the last write of these began; where none did, so many
abbrev pub last_begun_at : ℕ → List Event → ℕ
last_begun_at beats [] = beats
last_begun_at beats (Promised promise ∷ later) = last_begun_at beats later
last_begun_at beats (Came seat ∷ later) = last_begun_at beats later
last_begun_at beats (Began at ∷ later) = last_begun_at at later
last_begun_at beats (Asked seat ∷ later) = last_begun_at beats later

-- As so many writes had begun before, the last of them when the device had had so many beats: each promise says how many
-- had begun when it was made. And where one had, the device has had a beat since the last one began.
abbrev pub AreNumbered : ℕ → ℕ → List Event → Type 0
AreNumbered begun beats [] = ⊤
AreNumbered begun beats (Promised promise ∷ later) =
    (promise.write ≡ begun) × (1 ≤ begun → beats < promise.beats) × AreNumbered begun beats later
AreNumbered begun beats (Came seat ∷ later) = AreNumbered begun beats later
AreNumbered begun beats (Began at ∷ later) = AreNumbered (begun + 1) at later
AreNumbered begun beats (Asked seat ∷ later) = AreNumbered begun beats later

-- A client's receipt: its promises, what it has seen of the one order, how many requests of it came, and how many beats
-- it asked for.
pub record ReceiptView : Type 0 where
  pub promises : List Promise
  pub order : List Event
  pub came : ℕ
  pub asked : ℕ

-- that of a client that has none
abbrev pub no_receipt : ReceiptView
no_receipt = record { promises = []; order = []; came = 0; asked = 0 }

-- each of its promises is in the order that it has seen
abbrev pub AreSeen : ReceiptView → Type 0
AreSeen receipt = All (Contains (promises_in receipt.order)) receipt.promises

-- it has those promises and maybe more, and has seen what it had seen, and maybe more
pub record HasGrown (before after : ReceiptView) : Type 0 where
  pub promises : IsPrefix before.promises after.promises
  pub order : IsPrefix before.order after.order
  pub came : before.came ≤ after.came

-- A request of a client came. The client has seen the one order so far then, with this request as the last event: at
-- its seat came this one and those of before, and no others. So many records were promised: no promise before it
-- counts more.
pub record Comes (before after : ReceiptView) (count : ℕ) : Type 0 where
  pub seat : ℕ
  pub between : List Event
  pub last : after.order ≡ (before.order ++ between) ++ Came seat ∷ []
  pub number : after.came ≡ before.came + 1
  pub own : comings_to seat after.order ≡ after.came
  pub same : after.promises ≡ before.promises
  pub counts : All (λ p. p.count ≤ count) (promises_in after.order)

-- A client asked for a beat. It has seen the one order so far then, with that as the last event: at its seat beats were
-- asked for now and as often as it had before, and no more often. So many writes had begun.
pub record Asks (before after : ReceiptView) (begun : ℕ) : Type 0 where
  pub seat : ℕ
  pub between : List Event
  pub last : after.order ≡ (before.order ++ between) ++ Asked seat ∷ []
  pub number : after.asked ≡ before.asked + 1
  pub own : asks_at seat after.order ≡ after.asked
  pub same : after.promises ≡ before.promises
  pub came : after.came ≡ before.came
  pub counts : begun_in after.order ≡ begun

-- A client asked for a beat, and it waits for the next write that begins then: the one of that number, if the numbers go
-- on.
abbrev pub HasAskedFor : ReceiptView → ReceiptView → Option ℕ → Type 0
HasAskedFor before after awaited = IfSome awaited (λ write. (begun : ℕ) × (write ≡ begun + 1) × Asks before after begun)

-- Behind all that a client had seen it asked for a beat, as the last of its asks; a write began after that; and behind that
-- begin, as the last one, was made what is a promise of the client, of so many records or more. Between these two the device
-- had a beat.
pub record HasBeat (before after : ReceiptView) (rests : ℕ) : Type 0 where
  pub asked : ReceiptView
  pub begun : ℕ
  pub asks : Asks before asked begun
  pub one : after.asked ≡ asked.asked
  pub between : List Event
  pub beats : ℕ
  pub behind : List Event
  pub promise : Promise
  pub later : List Event
  pub order : after.order ≡ asked.order ++ (between ++ Began beats ∷ (behind ++ Promised promise ∷ later))
  pub last : begun_in behind ≡ 0
  pub beat : beats < promise.beats
  pub has : Contains after.promises promise
  pub counts : rests ≤ promise.count

-- ---- events as ghost fields

abbrev pub parts_of : Event → (Promise ⊎ ℕ) ⊎ (ℕ ⊎ ℕ)
parts_of (Promised promise) = inl (inl promise)
parts_of (Came seat) = inl (inr seat)
parts_of (Began beats) = inr (inl beats)
parts_of (Asked seat) = inr (inr seat)

abbrev pub event_of : (Promise ⊎ ℕ) ⊎ (ℕ ⊎ ℕ) → Event
event_of (inl (inl promise)) = Promised promise
event_of (inl (inr seat)) = Came seat
event_of (inr (inl beats)) = Began beats
event_of (inr (inr seat)) = Asked seat

pub event_again : (e : Event) → event_of (parts_of e) ≡ e
event_again (Promised promise) = refl
event_again (Came seat) = refl
event_again (Began beats) = refl
event_again (Asked seat) = refl

-- a struct may have a list of events as a ghost field
abbrev pub order_coded : Coded (List Event)
order_coded =
    coded_list (code_by ((Promise ⊎ ℕ) ⊎ (ℕ ⊎ ℕ)) (coded⊎ (coded⊎ promise_coded coded_ℕ) (coded⊎ coded_ℕ coded_ℕ))
    parts_of event_of event_again)
