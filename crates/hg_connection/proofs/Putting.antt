-- The parts of a bundle, put one after another.
use Rattle.std.proofs.Common.{ℕ, ◌≡◌, ◌≤◌, ◌<◌, ◌+◌, List, [], ◌∷◌, ◌++◌, refl, sym, ◌∙◌, ap, subst, arith}
use Rattle.std.proofs.Common.{append_assoc, length}
use Rattle.std.proofs.lemmas.List.{append-nil, length-append}
use Rattle.hg_types.specs.declared.part.Part.{Part}
use Rattle.hg_parts.specs.declared.item.Item.{Item}
use Rattle.hg_parts.specs.declared.item.What.TheVariants.{Part as a_part}
use Rattle.hg_queue.specs.Words.{next_item}
use Rattle.hg_stream.specs.declared.unbundler.Unbundler.{Unbundler}
use Rattle.hg_stream.specs.Unbundler.{HoldsBundle}
use Rattle.hg_serve.specs.Clients.{SenderView, GoesOn, PutsNext}
use Rattle.hg_connection.specs.Receiving.{part_items}
use Rattle.hg_connection.proofs.ReceivingLemmas.{items_append, items_length, items_more}
use Rattle.hg_connection.specs.Steps.{PutsParts}

-- none was put yet
pub puts_none : {A : Type 0} (s : SenderView A) → PutsParts s s []
puts_none s = record {
  push = refl;
  put_is = sym (append-nil s.putter.put);
  fulls = omega arith;
  history = refl;
}

pub holds_none : {A : Type 0} (u : Unbundler A) (given : List (Part A)) (bytes : List ℕ) → HoldsBundle u given bytes
    → HoldsBundle u (given ++ []) bytes
holds_none {A} u given bytes holds = subst (λ (l : List (Part A)). HoldsBundle u l bytes) (sym (append-nil given)) holds

pub holds_more : {A : Type 0} (u : Unbundler A) (given taken more : List (Part A)) (bytes : List ℕ)
    → HoldsBundle u ((given ++ taken) ++ more) bytes → HoldsBundle u (given ++ (taken ++ more)) bytes
holds_more {A} u given taken more bytes holds =
    subst (λ (l : List (Part A)). HoldsBundle u l bytes) (append_assoc given taken more) holds

-- so many were put
pub puts_count : {A : Type 0} (old s : SenderView A) (taken : List (Part A)) → PutsParts old s taken
    → length s.putter.put ≡ length old.putter.put + length taken
puts_count {A} old s taken p =
    let e : length s.putter.put ≡ length (old.putter.put
    ++ part_items old.putter.push (length old.putter.put) taken) = ap (λ (l : List (Item A)). length l) p.put_is in
    let sum = length-append old.putter.put (part_items old.putter.push (length old.putter.put) taken) in
    let count = items_length old.putter.push (length old.putter.put) taken in
    omega (arith, e, sum, count)

-- one part more was put
pub puts_more : {A : Type 0} (old s new : SenderView A) (taken : List (Part A)) (part : Part A)
    → PutsParts old s taken → PutsNext s (a_part part) new → PutsParts old new (taken ++ part ∷ [])
puts_more {A} old s new taken part p adds =
    let before = length old.putter.put in
    let f = p.fulls in
    let h = adds.fulls in
    let count = puts_count old s taken p in
    let item : next_item s.putter (a_part part) ≡ record {
      push = old.putter.push;
      index = before + length taken;
      what = a_part part;
    } = λ i.
    record { push = p.push i; index = count i; what = a_part part } in
    let put : new.putter.put ≡ (old.putter.put ++ part_items old.putter.push before taken)
    ++ part_items old.putter.push (before + length taken) (part ∷ []) = adds.put_is
    ∙ (λ i. p.put_is i ++ item i ∷ []) in
    record {
      push = adds.push ∙ p.push;
      put_is = put ∙ append_assoc old.putter.put (part_items old.putter.push before taken)
          (part_items old.putter.push (before + length taken) (part ∷ []))
          ∙ ap (λ (l : List (Item A)). old.putter.put ++ l)
          (sym (items_more old.putter.push before taken part));
      fulls = omega (arith, f, h);
      history = adds.history ∙ p.history;
    }

-- there is room for each part
pub has_room : {A : Type 0} (old s : SenderView A) (ready taken left : List (Part A)) (part : Part A)
    → PutsParts old s taken → ready ≡ taken ++ part ∷ left → length old.putter.put + length ready ≤ 10000
    → length s.putter.put < 10000
has_room {A} old s ready taken left part p spelled few =
    let count = puts_count old s taken p in
    let e : length ready ≡ length (taken ++ part ∷ left) = ap (λ (l : List (Part A)). length l) spelled in
    let sum = length-append taken (part ∷ left) in
    omega (arith, count, e, sum, few)

-- none is left
pub all_taken : {X : Type 0} (ready taken left : List X) → ready ≡ taken ++ left → left ≡ [] → taken ≡ ready
all_taken {X} ready taken left spelled none =
    sym (spelled ∙ ap (λ (l : List X). taken ++ l) none ∙ append-nil taken)

-- more parts were put of a push that had put these
pub put_more : {A : Type 0} (first s new : SenderView A) (given more : List (Part A))
    → GoesOn first s (part_items first.putter.push 0 given) → PutsParts s new more
    → GoesOn first new (part_items first.putter.push 0 (given ++ more))
put_more {A} first s new given more g p =
    let count : length s.putter.put ≡ 0 + length given =
    let e : length s.putter.put ≡ length (part_items first.putter.push 0 given) =
    ap (λ (l : List (Item A)). length l) g.put_is in
    let n = items_length first.putter.push 0 given in
    omega (arith, e, n) in
    let f = g.fulls in
    let h = p.fulls in
    record {
      push = p.push ∙ g.push;
      put_is = p.put_is ∙ (λ i. g.put_is i ++ part_items (g.push i) (count i) more)
          ∙ sym (items_append first.putter.push 0 given more);
      fulls = omega (arith, f, h);
      history = p.history ∙ g.history;
    }

-- the parts that are ready have room after those that were put
pub room_for : {A : Type 0} (first s : SenderView A) (given ready : List (Part A)) (most : ℕ)
    → GoesOn first s (part_items first.putter.push 0 given) → length (given ++ ready) ≤ most → most ≤ 10000
    → length s.putter.put + length ready ≤ 10000
room_for {A} first s given ready most g few limit =
    let e : length s.putter.put ≡ length (part_items first.putter.push 0 given) =
    ap (λ (l : List (Item A)). length l) g.put_is in
    let n = items_length first.putter.push 0 given in
    let sum = length-append given ready in
    omega (arith, e, n, sum, few, limit)
