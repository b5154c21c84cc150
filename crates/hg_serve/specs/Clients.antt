-- What contracts see of a connection's values, and what a put and a mark make of them.
use Rattle.std.specs.Prelude.{◌≡◌, ℕ, ◌≤◌, ◌+◌, List, [], ◌∷◌, ◌++◌, length, Result, Ok, Err, ⊤}
use Rattle.crossbeam_queue.specs.Fifo.{Held}
use Rattle.hg_parts.specs.declared.item.Item.{Item}
use Rattle.hg_parts.specs.declared.item.Taken.{Taken}
use Rattle.hg_parts.specs.declared.item.What.{What}
use Rattle.hg_parts.specs.declared.item.What.TheVariants.{Part as a_part}
use Rattle.hg_types.specs.declared.part.Part.{Part}
use Rattle.hg_queue.specs.declared.view.PutterView.{PutterView}
use Rattle.hg_queue.specs.declared.view.View.TheVariants.{AsPutter}
use Rattle.hg_queue.specs.Rules.{Stands}
use Rattle.hg_queue.specs.Words.{next_item}
use Rattle.hg_serve.specs.declared.server.PutFault.{PutFault}
use Rattle.hg_serve.specs.declared.server.PutFault.TheVariants.{TooMany, Full}

-- an open push: what it put, how often it found the queue full, and the history that its client had seen
pub record SenderView (A : Type 0) : Type 0 where
  pub putter : PutterView A
  pub history : List (Taken A)

-- a push that has its mark: all that it put, and the history that its client had seen
pub record AwaitingView (A : Type 0) : Type 0 where
  pub push : ℕ
  pub put : List (Item A)
  pub history : List (Taken A)

-- the same push with the same history, with that put list, after as many full puts or more
pub record GoesOn {A : Type 0} (old new : SenderView A) (put : List (Item A)) : Type 0 where
  pub push : new.putter.push ≡ old.putter.push
  pub put_is : new.putter.put ≡ put
  pub fulls : old.putter.fulls ≤ new.putter.fulls
  pub history : new.history ≡ old.history

-- it put this next, and nothing else
abbrev pub PutsNext : {A : Type 0} → SenderView A → What A → SenderView A → Type 0
PutsNext old what new = GoesOn old new (old.putter.put ++ next_item old.putter what ∷ [])

-- it put its mark next, and nothing else
pub record PutsItsMark {A : Type 0} (old : SenderView A) (what : What A) (new : AwaitingView A) : Type 0 where
  pub push : new.push ≡ old.putter.push
  pub put : new.put ≡ old.putter.put ++ next_item old.putter what ∷ []
  pub history : new.history ≡ old.history

-- one part more in the put list, and one full put more
abbrev pub with_part : {A : Type 0} → SenderView A → Part A → SenderView A
with_part s part =
    record s { putter = record s.putter { put = s.putter.put ++ next_item s.putter (a_part part) ∷ [] } }

-- the same, after one more put that found the queue full
abbrev pub with_full : {A : Type 0} → SenderView A → SenderView A
with_full s = record s { putter = record s.putter { fulls = s.putter.fulls + 1 } }

-- The part was put, and nothing else changed; or it came back: after 10,000 parts, with nothing changed, or
-- because the queue was full at one moment, which the sender counted.
abbrev pub TriesPut : {A : Type 0} → ℕ → SenderView A → Part A → Result ⊤ (PutFault A) → SenderView A → Type 0
TriesPut capacity old part (Ok _) new = new ≡ with_part old part
TriesPut capacity old part (Err (TooMany back)) new =
    (back ≡ part) × (new ≡ old) × (10000 ≤ length old.putter.put)
TriesPut capacity old part (Err (Full back)) new =
    (back ≡ part) × (new ≡ with_full old) × Held capacity (Stands (AsPutter old.putter))
