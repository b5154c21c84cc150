-- The rule of the queue: what holds at every moment of what the queue holds and of what its seats know,
-- whatever the threads do.
use Rattle.std.specs.Prelude.{◌≡◌, ◌≢◌, ℕ, ◌+◌, ◌<◌, ◌≤◌, true, false, List, [], ◌++◌, length, Option, Some}
use Rattle.std.specs.Prelude.{slice_get, option_to_list}
use mathlib.Core.Option.{some}
use mathlib.Core.List.{IsPrefix}
use lib.ListN.{get_elem?}
use Rattle.hg_parts.specs.declared.item.Item.{Item}
use Rattle.hg_parts.specs.declared.item.Taken.{Taken}
use Rattle.hg_queue.specs.declared.view.Claim.{Claim}
use Rattle.hg_queue.specs.declared.view.TakerView.{TakerView}
use Rattle.hg_queue.specs.declared.view.PutterView.{PutterView}
use Rattle.hg_queue.specs.declared.view.View.{View}
use Rattle.hg_queue.specs.declared.view.View.TheVariants.{AsTaker, AsPutter, AsMarked, AsVisitor, Spent}
use Rattle.hg_queue.specs.History.{is_part, of, items_of, has, AllParts, IsOrderly, IsDistinct}

-- What the rule says there is: the Taker's side, the seat that was noted for each push, and the Taker's own
-- seat.
pub record World (A : Type 0) : Type 0 where
  pub capacity : ℕ
  pub settled : List (Taken A)
  pub last : Option (Item A)
  pub noted : List ℕ
  pub joined : List ℕ
  pub seat : ℕ → ℕ
  pub taker : ℕ

module _ {A : Type 0} where
  -- the Taker's log: the items that were taken, in order
  abbrev pub log_of : World A → List (Item A)
  log_of w = items_of w.settled ++ option_to_list w.last

  -- all items that were ever put: the log, and then what the queue holds
  abbrev pub whole : World A → List (Item A) → List (Item A)
  whole w items = log_of w ++ items

-- A Marked's list is all items of its push. Its mark stands at its place, and fewer items than the capacity
-- come between the log and that place.
pub record IsClaim {A : Type 0} (w : World A) (all : List (Item A)) (c : Claim A) : Type 0 where
  pub same : c.put ≡ of c.push all
  pub noted : has c.push w.noted ≡ true
  pub mark : Item A
  pub at : slice_get all c.place ≡ Some mark
  pub mine : mark.push ≡ c.push
  pub marks : is_part mark.what ≡ false
  pub ends : AllParts c.put → ⊥
  pub near : c.place < length (log_of w) + w.capacity

-- The Taker's view is the Taker's side of the world. What it heard of others is true.
pub record FitsTaker {A : Type 0} (w : World A) (all : List (Item A)) (port : ℕ)
    (t : TakerView A) : Type 0 where
  pub here : port ≡ w.taker
  pub capacity : t.capacity ≡ w.capacity
  pub settled : t.settled ≡ w.settled
  pub last : t.last ≡ w.last
  pub noted : t.noted ≡ w.noted
  pub joined : t.joined ≡ w.joined
  pub awaited : (c : Claim A) → t.awaited ≡ Some c → IsClaim w all c
  pub heard : IsPrefix t.heard w.settled

-- A Putter has the seat that was noted for its push. Its list is all items of its push, and these are parts.
pub record FitsPutter {A : Type 0} (w : World A) (all : List (Item A)) (port : ℕ)
    (v : PutterView A) : Type 0 where
  pub seat : port ≡ w.seat v.push
  pub noted : has v.push w.noted ≡ true
  pub capacity : v.capacity ≡ w.capacity
  pub same : v.put ≡ of v.push all
  pub parts : AllParts v.put

-- A Visitor's history begins the Taker's, short of the item taken last while its refusal is missing. Its seat
-- is noted for no push.
pub record FitsVisitor {A : Type 0} (w : World A) (port : ℕ) (h : List (Taken A)) : Type 0 where
  pub seen : IsPrefix h w.settled
  pub apart : (p : ℕ) → has p w.noted ≡ true → w.seat p ≢ port

module _ {A : Type 0} where
  -- the view fits the world, by its role
  abbrev pub Kind : World A → List (Item A) → ℕ → View A → Type 0
  Kind w all port (AsTaker t) = FitsTaker w all port t
  Kind w all port (AsPutter v) = FitsPutter w all port v
  Kind w all port (AsMarked c) = (port ≡ w.seat c.push) × IsClaim w all c
  Kind w all port (AsVisitor h) = FitsVisitor w port h
  Kind w all port Spent = Unit {0}

-- What the rule says of one seat: its view fits the world, and where a push noted for it was joined it is
-- spent.
pub record SeatFits {A : Type 0} (w : World A) (all : List (Item A)) (port : ℕ) (v : View A) : Type 0 where
  pub kind : Kind w all port v
  pub spent : (p : ℕ) → has p w.joined ≡ true → w.seat p ≡ port → v ≡ Spent

-- What the rule says of the world, while the queue holds these items and so many seats were made.
pub record IsSound {A : Type 0} (w : World A) (items : List (Item A)) (seats : ℕ) : Type 0 where
  -- the queue is never longer than its capacity
  pub room : length items ≤ w.capacity
  -- a push that has an item is noted, and its items are in order
  pub unnoted : (p : ℕ) → has p w.noted ≡ false → of p (whole w items) ≡ []
  pub orderly : (p : ℕ) → IsOrderly 0 (of p (whole w items))
  -- each noted seat was made, and none is noted for two pushes
  pub made : (p : ℕ) → has p w.noted ≡ true → w.seat p < seats
  pub apart : (p q : ℕ) → has p w.noted ≡ true → has q w.noted ≡ true → w.seat p ≡ w.seat q → p ≡ q
  -- a push is joined once at most, and only where it was noted
  pub joined : (p : ℕ) → has p w.joined ≡ true → has p w.noted ≡ true
  pub once : IsDistinct w.joined

module _ {A : Type 0} where
  -- each view fits the world
  abbrev pub AllFit : World A → List (Item A) → List (View A) → Type 0
  AllFit w all views = (port : ℕ) (v : View A) → get_elem? views port ≡ some v → SeatFits w all port v

  -- The rule: of what the queue holds, the oldest first, and of the view of each seat, by its number.
  abbrev pub Rule : List (Item A) → List (View A) → Type 0
  Rule items views = (w : World A) × IsSound w items (length views) × AllFit w (whole w items) views

  -- the rule holds of these items, and this view is one of those that stand
  abbrev pub Stands : View A → List (Item A) → Type 0
  Stands v items = (views : List (View A)) × (port : ℕ) × Rule items views × (get_elem? views port ≡ some v)
