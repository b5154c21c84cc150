-- The rule of a tally, and what each step at it reports.
use Rattle.std.specs.Prelude.{◌≡◌, ℕ, ◌<◌, ◌≤◌, ◌+◌, List, [], ◌∷◌, ◌++◌, length, true, false, All, Contains}
use mathlib.Core.List.{IsPrefix}
use mathlib.Core.Option.{some}
use lib.ListN.{get_elem?}
use Rattle.atomic_table.specs.Table.{State, Me, Step}
use Rattle.atomic_table.specs.Seated.{TableId}
use Rattle.atomic_table.specs.declared.shared.Seat.{Seat}
use Rattle.hg_commit.specs.declared.known.Known.{Known}
use Rattle.hg_commit.specs.Orders.{AreNumbered, Asked, asks_at, begun_in, Came, comings_to, Event, last_begun_at}
use Rattle.hg_commit.specs.Orders.{promises_in, ReceiptView}
use Rattle.hg_commit.specs.Promises.{KeeperView, Promise}

-- each promise of the first list is one of the second
abbrev pub AreAmong : List Promise → List Promise → Type 0
AreAmong promises all = All (Contains all) promises

-- none of them counts more than that
abbrev pub CountAtMost : ℕ → List Promise → Type 0
CountAtMost count promises = All (λ p. p.count ≤ count) promises

-- the keeper at the beginning
abbrev pub keeper : Known
keeper = record {
  is_keeper = true;
  is_spent = false;
  promises = [];
  order = [];
  came = 0;
  asked = 0;
  begun = 0;
  beats = 0;
  heard = [];
  heard_order = [];
}

-- another seat knows these promises
abbrev pub seat_with : List Promise → Known
seat_with promises = record {
  is_keeper = false;
  is_spent = false;
  promises = promises;
  order = [];
  came = 0;
  asked = 0;
  begun = 0;
  beats = 0;
  heard = [];
  heard_order = [];
}

-- a seat that is used no more
abbrev pub spent : Known
spent = record {
  is_keeper = false;
  is_spent = true;
  promises = [];
  order = [];
  came = 0;
  asked = 0;
  begun = 0;
  beats = 0;
  heard = [];
  heard_order = [];
}

-- What one seat knows, by the one order and by the seat of the keeper: the keeper knows all promises, how many writes
-- began, and how many beats the device had had as the last one did. What a seat has seen begins the order, and the
-- comings to it and the asks at it are its own. Whatever it knows or heard of was promised.
pub record KnownFits (seat : ℕ) (order : List Event) (at : ℕ) (v : Known) : Type 0 where
  pub kept : v.is_keeper ≡ true → (at ≡ seat) × (v.promises ≡ promises_in order) × (v.begun ≡ begun_in order)
      × (v.beats ≡ last_begun_at 0 order)
  pub low : AreAmong v.promises (promises_in order)
  pub begins : IsPrefix v.order order
  pub own : v.is_spent ≡ false → (comings_to at order ≡ v.came) × (asks_at at order ≡ v.asked)
  pub heard : AreAmong v.heard (promises_in order)
  pub heard_begins : IsPrefix v.heard_order order

-- There is one order of all events: of the promises, of which the first word counts as many as each, or more; of the
-- requests that came and the beats that were asked for, each at its seat; and of the writes that began, of which the
-- second word is the number.
pub record IsTallied (s : State (Unit {0}) Known) : Type 0 where
  pub word : ℕ
  pub seat : ℕ
  pub order : List Event
  pub words : s.words ≡ word ∷ begun_in order ∷ []
  pub counts : CountAtMost word (promises_in order)
  pub numbered : AreNumbered 0 0 order
  pub unseated : (at : ℕ) → length s.views ≤ at → (comings_to at order ≡ 0) × (asks_at at order ≡ 0)
  pub fits : (at : ℕ) (v : Known) → get_elem? s.views at ≡ some v → KnownFits seat order at v

-- the promises, and one more: of so many records, at that moment, as so many writes had begun, and the device had had so
-- many beats
abbrev pub one_more : List Promise → ℕ → ℕ → ℕ → ℕ → List Promise
one_more promises count moment write beats =
    promises ++ record { count = count; moment = moment; write = write; beats = beats } ∷ []

-- a keeper with one promise more, made as so many writes had begun
abbrev pub raised_to : KeeperView → ℕ → ℕ → ℕ → KeeperView
raised_to keeper count moment beats =
    record keeper { promises = one_more keeper.promises count moment keeper.begun beats }

-- there is one promise more: of the number that was stored, at that moment and after so many beats
abbrev pub raised : ℕ → ℕ → Step (Unit {0}) → Me (Unit {0}) Known → ℕ → Me (Unit {0}) Known → Type 0
raised moment beats st me n after =
    (order : List Event) × IsPrefix me.0.order order
    × (after ≡ (record me.0 { promises = one_more me.0.promises n moment me.0.begun beats; order = order }, me.1))

-- one write more began, after so many beats
abbrev pub begun_more : ℕ → Step (Unit {0}) → Me (Unit {0}) Known → ℕ → Me (Unit {0}) Known → Type 0
begun_more beats st me n after =
    (order : List Event) × IsPrefix me.0.order order
    × (after ≡ (record me.0 { order = order; begun = me.0.begun + 1; beats = beats }, me.1))

-- A request came to a seat that knew this, and it knows that then. The number that was found is what all promises so
-- far count at most.
pub record CameTo (v : Known) (n : ℕ) (w : Known) : Type 0 where
  pub seat : ℕ
  pub between : List Event
  pub is : w ≡ record v { order = (v.order ++ between) ++ Came seat ∷ []; came = v.came + 1 }
  pub own : comings_to seat w.order ≡ w.came
  pub among : AreAmong w.promises (promises_in w.order)
  pub counts : CountAtMost n (promises_in w.order)

abbrev pub comes : Step (Unit {0}) → Me (Unit {0}) Known → ℕ → Me (Unit {0}) Known → Type 0
comes st me n after = CameTo me.0 n after.0 × (after.1 ≡ me.1)

-- the same, of a seat that is new
abbrev pub arrives : Step (Unit {0}) → Me (Unit {0}) Known → ℕ → Me (Unit {0}) Known → Type 0
arrives st me n after = CameTo (seat_with []) n after.0 × (after.1 ≡ [])

-- A beat was asked for at a seat that knew this, and it knows that then. The number that was found is how many writes
-- had begun.
pub record AskedAt (v : Known) (n : ℕ) (w : Known) : Type 0 where
  pub seat : ℕ
  pub between : List Event
  pub is : w ≡ record v { order = (v.order ++ between) ++ Asked seat ∷ []; asked = v.asked + 1 }
  pub own : asks_at seat w.order ≡ w.asked
  pub among : AreAmong w.promises (promises_in w.order)
  pub counts : begun_in w.order ≡ n

abbrev pub asks : Step (Unit {0}) → Me (Unit {0}) Known → ℕ → Me (Unit {0}) Known → Type 0
asks st me n after = AskedAt me.0 n after.0 × (after.1 ≡ me.1)

-- the same, of a seat that is new
abbrev pub asks_first : Step (Unit {0}) → Me (Unit {0}) Known → ℕ → Me (Unit {0}) Known → Type 0
asks_first st me n after = AskedAt (seat_with []) n after.0 × (after.1 ≡ [])

-- A seat has seen the order so far: all that it knows and heard of is in it, and what it had seen begins it.
pub record Sees (v : Known) (w : Known) : Type 0 where
  pub order : List Event
  pub is : w ≡ record v { order = order }
  pub begins : IsPrefix v.order order
  pub among : AreAmong v.promises (promises_in order)
  pub heard : v.is_keeper ≡ true → AreAmong v.heard v.promises
  pub heard_begins : IsPrefix v.heard_order order
  pub numbered : AreNumbered 0 0 order

abbrev pub looks : Step (Unit {0}) → Me (Unit {0}) Known → ℕ → Me (Unit {0}) Known → Type 0
looks st me n after = Sees me.0 after.0 × (after.1 ≡ me.1)

-- a new seat knows and has seen what another has
abbrev pub shown_by : Known → Known
shown_by v = record (seat_with v.promises) { order = v.order }

-- the first heard what the second knows
abbrev pub heard_from : Known → Known → Known
heard_from v w = record v { heard = w.promises; heard_order = w.order }

-- the first knows what both know
abbrev pub united : Known → Known → Known
united v w = record v { is_keeper = false; promises = v.promises ++ w.promises }

-- what a client's receipt has
abbrev pub receipt_of : Known → ReceiptView
receipt_of v = record { promises = v.promises; order = v.order; came = v.came; asked = v.asked }

-- it is a seat at this tally that is in use
abbrev pub IsSeatAt : TableId → Seat (Unit {0}) Known → Type 0
IsSeatAt id seat = (seat.table_id ≡ id) × (1 < id.words) × (seat.me.1 ≡ []) × (seat.me.0.is_spent ≡ false)

-- it is the keeper's
abbrev pub IsKeeperAt : TableId → Seat (Unit {0}) Known → Type 0
IsKeeperAt id seat = (seat.me.0.is_keeper ≡ true) × IsSeatAt id seat

-- it has promises that were granted, and no request came to it
abbrev pub IsGrantAt : TableId → Seat (Unit {0}) Known → Type 0
IsGrantAt id seat = (seat.me.0.came ≡ 0) × (seat.me.0.asked ≡ 0) × IsSeatAt id seat

-- it is a client's: its promises are in the order that it has seen
abbrev pub IsClientAt : TableId → Seat (Unit {0}) Known → Type 0
IsClientAt id seat = AreAmong seat.me.0.promises (promises_in seat.me.0.order) × IsSeatAt id seat
