-- A queue between the senders of many pushes and the one who takes, over every list of events.
use Rattle.std.specs.Prelude.{ℕ, Bool, ◌==◌, ◌&&◌, not, nat_lt, List, [], ◌∷◌, ◌++◌, length, filter}
use Rattle.std.specs.Prelude.{if◌then◌else◌}
use Rattle.std.specs.List.{list_any, flat_map}
use Rattle.hg_types.specs.declared.part.Part.{Part}
use Rattle.hg_parts.specs.declared.item.What.{What}
use Rattle.hg_parts.specs.declared.item.Item.{Item}
use Rattle.hg_push.specs.History.{History, is_mark, part_in, may_refuse}

-- a capacity, the queue, the opened numbers, what was put for each push, and what was taken
pub record World (A : Type 0) : Type 0 where
  pub capacity : ℕ
  -- the oldest item first
  pub queue : List (Item A)
  pub opened : List ℕ
  -- what was put for each push, the oldest item first
  pub puts : ℕ → List (Item A)
  pub history : History A

-- an opening, a put, or a take
pub data Event (A : Type 0) : Type 0 where
  Open : (p : ℕ) → Event A
  Put : (p : ℕ) → (what : What A) → Event A
  Take : (refused : Bool) → Event A

-- nothing was opened, put or taken
abbrev pub start : {A : Type 0} → ℕ → World A
start capacity = record { capacity = capacity; queue = []; opened = []; puts = λ _. []; history = [] }

-- the parts among items, in order
abbrev pub all_parts : {A : Type 0} → List (Item A) → List (Part A)
all_parts items = flat_map (λ i. part_in i.what) items

-- there is a mark among the items
abbrev pub has_mark : {A : Type 0} → List (Item A) → Bool
has_mark items = list_any (λ i. is_mark i.what) items

-- the number was opened
abbrev pub has_opened : {A : Type 0} → World A → ℕ → Bool
has_opened w p = list_any (λ q. q == p) w.opened

-- the queue holds as many items as its capacity
abbrev pub is_full : {A : Type 0} → World A → Bool
is_full w = not (nat_lt (length w.queue) w.capacity)

-- the push is opened and has no mark, and the queue has room
abbrev pub can_put : {A : Type 0} → World A → ℕ → Bool
can_put w p = has_opened w p && not (has_mark (w.puts p)) && not (is_full w)

-- what is put next for p: its index is the number of parts that were put for it
abbrev pub next_item : {A : Type 0} → World A → ℕ → What A → Item A
next_item w p what = record { push = p; index = length (all_parts (w.puts p)); what = what }

-- the item joins its push's list and the end of the queue
abbrev pub put : {A : Type 0} → World A → Item A → World A
put w item = record w {
  queue = w.queue ++ item ∷ [];
  puts = λ q. if item.push == q then w.puts q ++ item ∷ [] else w.puts q;
}

-- the first item of the queue is taken; memory may be refused for it
abbrev pub take_first : {A : Type 0} → World A → Bool → List (Item A) → World A
take_first w refused [] = w
take_first w refused (item ∷ rest) = record w {
  queue = rest;
  history = record { item = item; refused = refused && may_refuse w.history item } ∷ w.history;
}

-- An event that is not allowed changes nothing: a put into a full queue is one.
abbrev pub happens : {A : Type 0} → World A → Event A → World A
happens w (Open p) = if has_opened w p then w else record w { opened = p ∷ w.opened }
happens w (Put p what) = if can_put w p then put w (next_item w p what) else w
happens w (Take refused) = take_first w refused w.queue

-- the world after these events
abbrev pub run_all : {A : Type 0} → List (Event A) → World A → World A
run_all [] w = w
run_all (e ∷ es) w = run_all es (happens w e)

-- the items of a history, the oldest first
abbrev pub items_in : {A : Type 0} → History A → List (Item A)
items_in [] = []
items_in (x ∷ before) = items_in before ++ x.item ∷ []

-- the items of that push
abbrev pub items_of : {A : Type 0} → ℕ → List (Item A) → List (Item A)
items_of p items = filter (λ i. i.push == p) items
