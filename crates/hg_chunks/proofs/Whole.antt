-- The bytes that a reader has taken in all.
use Rattle.std.proofs.Common.{◌≡◌, ℕ, List, [], ◌∷◌, ◌++◌, refl, sym, ap, ◌∙◌, append_assoc, map}
use Rattle.std.specs.List.{flat_map, AllByRecursion}
use Rattle.std.proofs.lemmas.List.{append-nil}
use Rattle.std.proofs.lemmas.Grind.{flat_map-append}
use Rattle.hg_chunks.specs.declared.fault.Step.{Step}
use Rattle.hg_chunks.specs.declared.fault.Step.TheVariants.{More, Interrupt, Done}
use Rattle.hg_chunks.specs.declared.payload.PayloadIn.{PayloadIn}
use Rattle.hg_chunks.specs.Payload.{Item, Chunk, Interruption, item_bytes, item_data, IsItem, IsChunk}
use Rattle.hg_chunks.specs.Payload.{IsPayload, chunk_bytes}
use Rattle.hg_chunks.specs.PayloadIn.{HasRead, Ended, phase_of, HasTakenItems, StopsWithin, StopsAt}
use Rattle.hg_chunks.proofs.Phases.{closed_when_ended}

abbrev as_items : List (List ℕ) → List Item
as_items chunks = map Chunk chunks

-- the bytes of items that are chunks
bytes_of-chunks : (chunks : List (List ℕ))
    → flat_map item_bytes (as_items chunks) ≡ flat_map chunk_bytes chunks
bytes_of-chunks [] = refl
bytes_of-chunks (chunk ∷ chunks) =
    ap (λ (bytes : List ℕ). chunk_bytes chunk ++ bytes) (bytes_of-chunks chunks)

-- and their data
data_of-chunks : (chunks : List (List ℕ))
    → flat_map item_data (as_items chunks) ≡ flat_map (λ (chunk : List ℕ). chunk) chunks
data_of-chunks [] = refl
data_of-chunks (chunk ∷ chunks) = ap (λ (bytes : List ℕ). chunk ++ bytes) (data_of-chunks chunks)

chunks_are_items : (chunks : List (List ℕ)) → AllByRecursion IsChunk chunks
    → AllByRecursion IsItem (as_items chunks)
chunks_are_items [] each = tt
chunks_are_items (chunk ∷ chunks) each = (each.0, chunks_are_items chunks each.1)

All-append : (xs ys : List Item) → AllByRecursion IsItem xs → AllByRecursion IsItem ys
    → AllByRecursion IsItem (xs ++ ys)
All-append [] ys hx hy = hy
All-append (x ∷ xs) ys hx hy = (hx.0, All-append xs ys hx.1 hy)

-- the item after the chunks, where a call stopped at one
abbrev last_items : Step → List Item
last_items More = []
last_items Interrupt = Interruption ∷ []
last_items Done = []

last_are_items : (step : Step) → AllByRecursion IsItem (last_items step)
last_are_items More = tt
last_are_items Interrupt = (tt, tt)
last_are_items Done = tt

last_bytes : (step : Step) (limit : ℕ) (whole tail rest : List ℕ) → StopsAt step limit whole tail rest
    → tail ≡ flat_map item_bytes (last_items step)
last_bytes More limit whole tail rest stops = stops.0
last_bytes Interrupt limit whole tail rest stops = stops.0
last_bytes Done limit whole tail rest stops = stops.0

last_data : (step : Step) → flat_map item_data (last_items step) ≡ []
last_data More = refl
last_data Interrupt = refl
last_data Done = refl

-- Items and a rest, and more bytes that are more items and another rest.
extended : (items more : List Item) (bytes piece rest after : List ℕ) → bytes ≡ flat_map item_bytes items
    ++ rest → rest ++ piece ≡ flat_map item_bytes more ++ after
    → bytes ++ piece ≡ flat_map item_bytes (items ++ more) ++ after
extended items more bytes piece rest after first second =
    ap (λ (x : List ℕ). x ++ piece) first ∙ append_assoc (flat_map item_bytes items) rest piece
    ∙ ap (λ (x : List ℕ). flat_map item_bytes items ++ x) second
    ∙ sym (append_assoc (flat_map item_bytes items) (flat_map item_bytes more) after)
    ∙ ap (λ (x : List ℕ). x ++ after) (sym (flat_map-append item_bytes items more))

-- What a reader has read in all grows by what a call takes.
pub HasRead-then : {A : Type 0} → (step : Step) (p q : PayloadIn A) (bytes piece : List ℕ) → HasRead p bytes
    → ((whole rest : List ℕ) → HasTakenItems p whole rest → StopsWithin step q whole rest piece)
    → HasRead q (bytes ++ piece)
HasRead-then step p q bytes piece read next =
    let whole : List ℕ = flat_map item_data read.items in
    let s = next whole read.rest read.holds in
    let chunks : List (List ℕ) = s.0 in
    let more : List Item = as_items chunks ++ last_items step in
    let is_tail : s.1 ≡ flat_map item_bytes (last_items step) = last_bytes step q.limit (whole
    ++ flat_map (λ (c : List ℕ). c) chunks) s.1 s.2 s.4 in
    let more_bytes : flat_map item_bytes more ≡ flat_map chunk_bytes chunks
    ++ s.1 = flat_map-append item_bytes (as_items chunks) (last_items step)
    ∙ ap (λ (x : List ℕ). x ++ flat_map item_bytes (last_items step)) (bytes_of-chunks chunks)
    ∙ ap (λ (x : List ℕ). flat_map chunk_bytes chunks ++ x) (sym is_tail) in
    let more_data : flat_map item_data more ≡ flat_map (λ (c : List ℕ). c) chunks = flat_map-append item_data
    (as_items chunks) (last_items step)
    ∙ ap (λ (x : List ℕ). flat_map item_data (as_items chunks) ++ x) (last_data step)
    ∙ append-nil (flat_map item_data (as_items chunks)) ∙ data_of-chunks chunks in
    let whole_now : whole ++ flat_map (λ (c : List ℕ). c) chunks ≡ flat_map item_data (read.items ++ more) =
    ap (λ (x : List ℕ). whole ++ x) (sym more_data) ∙ sym (flat_map-append item_data read.items more) in
    let took : read.rest ++ piece ≡ flat_map item_bytes more ++ s.2 = s.3.spelled
    ∙ sym (append_assoc (flat_map chunk_bytes chunks) s.1 s.2)
    ∙ ap (λ (x : List ℕ). x ++ s.2) (sym more_bytes) in
    record {
      items = read.items ++ more;
      rest = s.2;
      each = All-append read.items more read.each
          (All-append (as_items chunks) (last_items step) (chunks_are_items chunks s.3.each)
          (last_are_items step));
      spelled = extended read.items more bytes piece read.rest s.2 read.spelled took;
      holds = rw (← whole_now) s.3.holds;
    }
