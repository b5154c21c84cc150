-- What lies under the lock.
use Rattle.std.specs.Prelude.{◌≡◌, ℕ, ◌≤◌, ◌<◌, ◌+◌, ◌-◌, ◌^◌, ◌++◌, ◌∷◌, true, false, List, [], map, length}
use Rattle.std.specs.Prelude.{option_to_list, Option, Some, None}
use Rattle.atomic_table.specs.Seated.{TableId}
use Rattle.hg_parts.specs.declared.item.Item.{Item}
use Rattle.hg_parts.specs.declared.item.Taken.{Taken}
use Rattle.hg_types.specs.Limits.{IsAllowed}
use Rattle.hg_queue.specs.declared.queue.PartQueue.{PartQueue}
use Rattle.hg_queue.specs.declared.seat.Taker.{Taker}
use Rattle.hg_queue.specs.declared.view.TakerView.{TakerView}
use Rattle.hg_queue.specs.declared.view.View.TheVariants.{AsTaker}
use Rattle.hg_queue.specs.History.{has, items_of}
use Rattle.hg_queue.specs.Rules.{Stands}
use Rattle.hg_queue.specs.Seats.{fresh}
use Rattle.hg_queue.specs.Words.{taker_view, history, id_of, capacity_of, IsTakerIn}
use Rattle.hg_push.specs.Book.{HoldsHistory, is_opened}
use Rattle.hg_push.specs.Run.{BookOf, RepositoryOf, run_push}
use Rattle.hg_serve.specs.Histories.{newest_first}

-- It is the queue of this name and capacity.
abbrev pub IsQueueIn : {A : Type 0} → TableId → ℕ → PartQueue A → Type 0
IsQueueIn id capacity q = (id_of q ≡ id) × (capacity_of q ≡ capacity)

-- What a server begins with: a queue and its Taker, both new, and the first repository.
pub record OpensWith {A : Type 0} (id : TableId) (capacity : ℕ) (first : RepositoryOf A) (q : PartQueue A)
    (t : Taker A) (repo : RepositoryOf A) : Type 0 where
  pub queue : IsQueueIn id capacity q
  pub bounded : capacity ≤ 65536
  pub taker : IsTakerIn id capacity t
  pub view : taker_view t ≡ fresh capacity
  pub empty : history t ≡ []
  pub named : repo ≡ first
  pub allowed : IsAllowed repo.settings.limits

-- the pushes that have a row
abbrev pub rows_of : {A : Type 0} → BookOf A → List ℕ
rows_of b = map (λ r. r.push) b.rows

-- What a contract sees of a desk: its Taker's history and view, and of its book what openings need. No row's
-- contents are seen.
pub record DeskView (A : Type 0) : Type 0 where
  pub history : List (Taken A)
  pub taker : TakerView A
  pub rows : List ℕ
  pub next : ℕ
  pub limit : ℕ
  -- a number that is opened and has no Putter yet
  pub kept : Option ℕ

-- what contracts see of a desk: the history, what its taker knows, the rows of its book
abbrev pub desk_view : {A : Type 0} → BookOf A → Taker A → Option ℕ → DeskView A
desk_view b t kept = record {
  history = history t;
  taker = taker_view t;
  rows = rows_of b;
  next = b.next;
  limit = b.limit;
  kept = kept;
}

-- The book holds the Taker's history, what was reported for the last place included. Each noted number is opened,
-- and has a row unless it was joined. A kept number is opened and not noted, and has a row.
pub record IsInOrder {A : Type 0} (id : TableId) (capacity : ℕ) (first : RepositoryOf A) (b : BookOf A)
    (t : Taker A) (kept : Option ℕ) : Type 0 where
  pub taker : IsTakerIn id capacity t
  pub held : HoldsHistory run_push first (newest_first (history t)) b
  pub opened : (p : ℕ) → has p (taker_view t).noted ≡ true → is_opened b p ≡ true
  pub row : (p : ℕ) → has p (taker_view t).noted ≡ true → has p (taker_view t).joined ≡ false →
      has p (rows_of b) ≡ true
  pub spare : (n : ℕ) → kept ≡ Some n → (is_opened b n ≡ true) × (has n (taker_view t).noted ≡ false)
      × (has n (rows_of b) ≡ true)

-- the number that is opened next: the kept one, else a new one
abbrev pub next_of : Option ℕ → ℕ → ℕ
next_of None next = next
next_of (Some n) next = n

-- the next number, after an opening that takes a row that was kept or a new one
abbrev pub next_after : Option ℕ → ℕ → ℕ
next_after None next = next + 1
next_after (Some n) next = next

-- the rows after an opening that takes a row that was kept or a new one
abbrev pub rows_after : Option ℕ → ℕ → List ℕ → List ℕ
rows_after None n rows = rows ++ n ∷ []
rows_after (Some kept) n rows = rows

-- The desk once that number is kept: where none was kept, it is a new one with a row.
abbrev pub keeping : {A : Type 0} → ℕ → DeskView A → DeskView A
keeping n d = record d { kept = Some n; next = next_after d.kept d.next; rows = rows_after d.kept n d.rows }

-- the desk once that number has its Putter
abbrev pub seating : {A : Type 0} → ℕ → DeskView A → DeskView A
seating n d = record d { kept = None; taker = record d.taker { noted = n ∷ d.taker.noted } }

-- An opening that keeps no number yet finds as many rows as the limit allows.
abbrev pub HasNoRoom : {A : Type 0} → DeskView A → Type 0
HasNoRoom d = (d.kept ≡ None) × (d.limit ≤ length d.rows)

-- An opening that keeps no number yet has room, and no number is left.
abbrev pub HasNoNumber : {A : Type 0} → DeskView A → Type 0
HasNoNumber d = (d.kept ≡ None) × (length d.rows < d.limit) × (d.next ≡ 2 ^ 32 - 1)

-- A turn leaves all but the history, what was taken last and how often nothing was: the rows, the numbers,
-- and the pushes that are noted, joined and awaited.
pub record IsSameBut {A : Type 0} (old new : DeskView A) : Type 0 where
  pub rows : new.rows ≡ old.rows
  pub next : new.next ≡ old.next
  pub limit : new.limit ≡ old.limit
  pub kept : new.kept ≡ old.kept
  pub noted : new.taker.noted ≡ old.taker.noted
  pub joined : new.taker.joined ≡ old.taker.joined
  pub awaited : new.taker.awaited ≡ old.taker.awaited

-- The rule of the queue holds with this view of the Taker, and the history's items are those that it took.
pub record IsKnown {A : Type 0} (capacity : ℕ) (d : DeskView A) : Type 0 where
  pub items : List (Item A)
  pub stands : Stands (AsTaker d.taker) items
  pub taken : items_of d.history ≡ items_of d.taker.settled ++ option_to_list d.taker.last
  pub room : d.taker.capacity ≡ capacity
