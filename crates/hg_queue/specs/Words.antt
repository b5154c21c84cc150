-- What contracts say of a queue and of its seats.
use Rattle.std.specs.Prelude.{◌≡◌, ℕ, Bool, List, [], ◌++◌, length}
use Rattle.atomic_table.specs.Seated.{TableId}
use Rattle.crossbeam_queue.specs.Passes.{view, ruled_capacity}
use Rattle.hg_parts.specs.declared.item.Item.{Item}
use Rattle.hg_parts.specs.declared.item.What.{What}
use Rattle.hg_parts.specs.declared.item.What.TheVariants.{End, Cut}
use Rattle.hg_parts.specs.declared.item.Taken.{Taken}
use Rattle.hg_queue.specs.declared.view.Claim.{Claim}
use Rattle.hg_queue.specs.declared.view.TakerView.{TakerView}
use Rattle.hg_queue.specs.declared.view.PutterView.{PutterView}
use Rattle.hg_queue.specs.declared.view.View.{View}
use Rattle.hg_queue.specs.declared.view.View.TheVariants.{AsTaker, AsPutter, AsMarked, AsVisitor}
use Rattle.hg_queue.specs.declared.seat.Mark.{Mark}
use Rattle.hg_queue.specs.declared.seat.Mark.TheVariants.{End as an_end, Cut as a_cut}
use Rattle.hg_queue.specs.declared.seat.Taker.{Taker}
use Rattle.hg_queue.specs.declared.seat.Putter.{Putter}
use Rattle.hg_queue.specs.declared.seat.Marked.{Marked}
use Rattle.hg_queue.specs.declared.seat.Visitor.{Visitor}
use Rattle.hg_queue.specs.declared.queue.PartQueue.{PartQueue}
use Rattle.hg_queue.specs.Seats.{fresh, putter, settle}

module _ {A : Type 0} where
  -- the view as a Taker's
  abbrev pub taker_of : View A → TakerView A
  taker_of (AsTaker t) = t
  taker_of v = fresh 0

  -- the view as a Putter's
  abbrev pub putter_of : View A → PutterView A
  putter_of (AsPutter v) = v
  putter_of v = putter 0 0

  -- the view as that of a push whose mark was put
  abbrev pub claim_of : View A → Claim A
  claim_of (AsMarked c) = c
  claim_of v = record { push = 0; put = []; place = 0 }

  -- the view as what a Visitor has seen
  abbrev pub seen_of : View A → List (Taken A)
  seen_of (AsVisitor h) = h
  seen_of v = []

  -- what the Taker knows
  abbrev pub taker_view : Taker A → TakerView A
  taker_view t = taker_of (view t.seat)

  -- what the Putter knows
  abbrev pub putter_view : Putter A → PutterView A
  putter_view p = putter_of (view p.seat)

  -- what the Marked knows: all that its push put, with its mark
  abbrev pub claim_at : Marked A → Claim A
  claim_at m = claim_of (view m.seat)

  -- the history that the Visitor has seen
  abbrev pub seen : Visitor A → List (Taken A)
  seen v = seen_of (view v.seat)

  -- the history of the Taker: all that it took, what was reported of the last item included
  abbrev pub history : Taker A → List (Taken A)
  history t = (taker_view t).settled ++ settle (taker_view t).last t.refused

  -- which queue it is
  abbrev pub id_of : PartQueue A → TableId
  id_of q = q.ring.table.shared.table_id

  -- how many items it holds at most
  abbrev pub capacity_of : PartQueue A → ℕ
  capacity_of q = ruled_capacity q.ring

  -- the item as it was taken: whether memory was refused for it
  abbrev pub taken : Item A → Bool → Taken A
  taken x refused = record { item = x; refused = refused }

  -- the item that a Putter puts next: its index is the number of parts before it
  abbrev pub next_item : PutterView A → What A → Item A
  next_item v what = record { push = v.push; index = length v.put; what = what }

  -- what a mark puts
  abbrev pub what_of : Mark → What A
  what_of an_end = End
  what_of (a_cut reason) = Cut reason

-- What is handed in is the Taker of the queue of this name and capacity.
pub record IsTakerIn {A : Type 0} (id : TableId) (capacity : ℕ) (t : Taker A) : Type 0 where
  pub seat : (t.seat.table_id ≡ id) × (t.seat.me.1 ≡ [])
  pub role : view t.seat ≡ AsTaker (taker_view t)
  pub room : (taker_view t).capacity ≡ capacity

-- It is a Putter, and has kept its push and the number of its parts.
pub record IsPutter {A : Type 0} (p : Putter A) : Type 0 where
  pub role : view p.seat ≡ AsPutter (putter_view p)
  pub push : p.push ≡ (putter_view p).push
  pub parts : p.parts ≡ length (putter_view p).put

-- It is a Putter of the queue.
pub record IsPutterIn {A : Type 0} (id : TableId) (capacity : ℕ) (p : Putter A) : Type 0 where
  pub seat : (p.seat.table_id ≡ id) × (p.seat.me.1 ≡ [])
  pub room : (putter_view p).capacity ≡ capacity
  pub is : IsPutter p

-- It is a Marked of the queue.
pub record IsMarkedIn {A : Type 0} (id : TableId) (m : Marked A) : Type 0 where
  pub seat : (m.seat.table_id ≡ id) × (m.seat.me.1 ≡ [])
  pub role : view m.seat ≡ AsMarked (claim_at m)

-- It is a Visitor of the queue.
pub record IsVisitorIn {A : Type 0} (id : TableId) (v : Visitor A) : Type 0 where
  pub seat : (v.seat.table_id ≡ id) × (v.seat.me.1 ≡ [])
  pub role : view v.seat ≡ AsVisitor (seen v)

module _ {A : Type 0} where
  -- the Taker of this queue
  abbrev pub IsTakerOf : PartQueue A → Taker A → Type 0
  IsTakerOf q t = IsTakerIn (id_of q) (capacity_of q) t

  -- a Putter of this queue
  abbrev pub IsPutterOf : PartQueue A → Putter A → Type 0
  IsPutterOf q p = IsPutterIn (id_of q) (capacity_of q) p

  -- a Marked of this queue
  abbrev pub IsMarkedOf : PartQueue A → Marked A → Type 0
  IsMarkedOf q m = IsMarkedIn (id_of q) m

  -- a Visitor of this queue
  abbrev pub IsVisitorOf : PartQueue A → Visitor A → Type 0
  IsVisitorOf q v = IsVisitorIn (id_of q) v
