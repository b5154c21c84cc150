-- What each kind of step makes of the view of the seat that takes it.
use Rattle.std.specs.Prelude.{◌≡◌, ℕ, ◌+◌, Bool, List, [], ◌∷◌, ◌++◌, Some, None}
use Rattle.hg_parts.specs.declared.item.Item.{Item}
use Rattle.hg_queue.specs.declared.view.Claim.{Claim}
use Rattle.hg_queue.specs.declared.view.TakerView.{TakerView}
use Rattle.hg_queue.specs.declared.view.PutterView.{PutterView}
use Rattle.hg_queue.specs.declared.view.View.{View}
use Rattle.hg_queue.specs.declared.view.View.TheVariants.{AsTaker, AsPutter, AsMarked, AsVisitor, Spent}
use Rattle.hg_queue.specs.Rules.{Stands}
use Rattle.hg_queue.specs.Seats.{fresh, putter, settle}

module _ {A : Type 0} where
  -- the Taker of a queue whose capacity is not set yet
  abbrev pub unsized : View A
  unsized = AsTaker (fresh 0)

  -- the Taker of a new queue, once its capacity is set
  abbrev pub sized : ℕ → View A → View A
  sized n v = AsTaker (fresh n)

  -- the Taker notes the push n, and the new seat is its Putter
  abbrev pub noting : ℕ → View A → View A
  noting n (AsTaker t) = AsTaker (record t { noted = n ∷ t.noted })
  noting n v = v

  -- the new seat of a push that a Taker notes: its Putter
  abbrev pub opened : ℕ → View A → View A
  opened n (AsTaker t) = AsPutter (putter t.capacity n)
  opened n v = Spent

  -- the Putter put a part
  abbrev pub put_by : View A → Item A → View A
  put_by (AsPutter v) x = AsPutter (record v { put = v.put ++ x ∷ [] })
  put_by v x = v

  -- the Putter put its mark at that place, and is a Marked
  abbrev pub claim : PutterView A → Item A → ℕ → Claim A
  claim v x place = record { push = v.push; put = v.put ++ x ∷ []; place = place }

  -- a Putter put its mark, at some place of the queue's list
  abbrev pub Marks : View A → Item A → View A → Type 0
  Marks (AsPutter v) x w = (place : ℕ) × (w ≡ AsMarked (claim v x place))
  Marks v x w = ⊥

  -- the Putter found the queue full
  abbrev pub counted_full : View A → View A
  counted_full (AsPutter v) = AsPutter (record v { fulls = v.fulls + 1 })
  counted_full v = v

  -- the same, after what was reported of the last item
  abbrev pub settled_view : Bool → TakerView A → TakerView A
  settled_view refused t = record t { settled = t.settled ++ settle t.last refused; last = None }

  -- the Taker took an item, and settled the one before
  abbrev pub took : Bool → View A → Item A → View A
  took refused (AsTaker t) x = AsTaker (record (settled_view refused t) { last = Some x })
  took refused v x = v

  -- and when the item had left, the rule held beside its new view
  abbrev pub TakesOne : Bool → View A → Item A → View A → Type 0
  TakesOne refused v x w = (w ≡ took refused v x) × ((items : List (Item A)) × Stands w items)

  -- the Taker found the queue empty, and settled the item taken last
  abbrev pub counted_empty : Bool → View A → View A
  counted_empty refused (AsTaker t) = AsTaker (record (settled_view refused t) { empties = t.empties + 1 })
  counted_empty refused v = v

  -- the Taker settled the item taken last, and the new seat has seen its whole history
  abbrev pub settling : Bool → View A → View A
  settling refused (AsTaker t) = AsTaker (settled_view refused t)
  settling refused v = v

  -- the same, of whichever role the view is
  abbrev pub history_note : Bool → View A → View A
  history_note refused (AsTaker t) = AsVisitor (settled_view refused t).settled
  history_note refused v = Spent

  -- the Taker took in a Marked
  abbrev pub joined : View A → View A → View A
  joined (AsTaker t) (AsMarked c) = AsTaker (record t { joined = c.push ∷ t.joined; awaited = Some c })
  joined v w = v

  -- the Taker heard what a Visitor has seen
  abbrev pub heard : View A → View A → View A
  heard (AsTaker t) (AsVisitor h) = AsTaker (record t { heard = h })
  heard v w = v
