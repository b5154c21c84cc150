-- What the seats of a new queue and of a new push know, and what the item taken last adds to a history.
use Rattle.std.specs.Prelude.{ℕ, Bool, List, [], ◌∷◌, Option, Some, None}
use Rattle.hg_parts.specs.declared.item.Item.{Item}
use Rattle.hg_parts.specs.declared.item.Taken.{Taken}
use Rattle.hg_queue.specs.declared.view.TakerView.{TakerView}
use Rattle.hg_queue.specs.declared.view.PutterView.{PutterView}

module _ {A : Type 0} where
  -- The Taker of a new queue of that capacity. A queue is made with none, and the first step sets it.
  abbrev pub fresh : ℕ → TakerView A
  fresh n = record {
    capacity = n;
    settled = [];
    last = None;
    empties = 0;
    noted = [];
    joined = [];
    awaited = None;
    heard = [];
  }

  -- the Putter of the push n that put nothing
  abbrev pub putter : ℕ → ℕ → PutterView A
  putter capacity n = record { capacity = capacity; push = n; put = []; fulls = 0 }

  -- what the item taken last adds to the settled history, once its refusal is known
  abbrev pub settle : Option (Item A) → Bool → List (Taken A)
  settle None refused = []
  settle (Some x) refused = record { item = x; refused = refused } ∷ []
