use Rattle.std.proofs.Common.{◌≡◌, ℕ, ◌+◌, ◌<◌, List, length, sym, ap, ◌∙◌, refl, subst, vec_len}
use Rattle.std.specs.List.{remove, All}
use Rattle.std.proofs.lemmas.Bool.{eqb-true}
use Rattle.std.proofs.lemmas.Option.{slice_get_read}
use Rattle.hg_names.specs.declared.blocks.Block.{Block}
use Rattle.hg_names.specs.code.Blocks.{pairs_in, place_at, IsFilled, IsSpot}
use Rattle.hg_names.proofs.Flat.{removed, removed_whole, remove_set}
use Rattle.hg_names.specs.Names.{Pairs, AreInOrder}
use Rattle.hg_names.proofs.Edits.{length_removed}
use Rattle.hg_names.proofs.Filled.{all_removed}
use Rattle.hg_names.proofs.InOrder.{in_order_removed}
use Rattle.hg_names.proofs.Own.{items, read_of, none_left, in_range}
use Rattle.hg_names.proofs.blocks.take_out.Goals as goal

module _ {A : Type 0} (blocks : List (Block A)) (block : Block A) (spot : ℕ × ℕ)
    (is_spot : IsSpot blocks spot) where
  -- there is one pair fewer
  one_fewer : (left : Pairs) → left ≡ remove (pairs_in blocks) (place_at blocks spot)
      → length (pairs_in blocks) ≡ length left + 1
  one_fewer left is = length_removed (pairs_in blocks) (place_at blocks spot) (in_range blocks block spot is_spot)
      ∙ ap (λ (ps : Pairs). length ps + 1) (sym is)

  -- and the others are in order
  order_left : AreInOrder (pairs_in blocks) → (left : Pairs) → left ≡ remove (pairs_in blocks) (place_at blocks spot)
      → AreInOrder left
  order_left in_order left is =
      subst AreInOrder (sym is)
      (in_order_removed (pairs_in blocks) (place_at blocks spot) (in_range blocks block spot is_spot) in_order)

pub returns-else-is_empty-clause-pairs : goal.returns-else-is_empty-clause-pairs
returns-else-is_empty-clause-pairs g c =
    let spot = c.args.spot in
    let block = c.index_mut-block.result.now in
    let is = c.index_mut-block.ensures.value in
    removed items c.args.blocks.now.items spot.0 block c.requires.spot.block _ spot.1
    (c.requires.spot.within block)
    (c.remove-pair.ensures.items ∙ ap (λ (b : Block g.row.A.Denot). remove (items b) spot.1) is)

pub returns-then-is_empty-clause-pairs : goal.returns-then-is_empty-clause-pairs
returns-then-is_empty-clause-pairs g c =
    let blocks = c.args.blocks.now.items in
    let spot = c.args.spot in
    let block = c.index_mut-block.result.now in
    let is = c.index_mut-block.ensures.value in
    let none : vec_len c.remove-pair.new.self ≡ 0 = eqb-true _ _ (sym c.is_empty.ensures ∙ c.if-is_empty.true) in
    ap pairs_in (c.remove.ensures.items ∙ remove_set blocks spot.0 _)
    ∙ removed_whole items blocks spot.0 block c.requires.spot.block spot.1 (c.requires.spot.within block)
    (sym (ap (λ (b : Block g.row.A.Denot). remove (items b) spot.1) is) ∙ sym c.remove-pair.ensures.items
    ∙ none_left (record { pairs = c.remove-pair.new.self }) none)

pub returns-then-is_empty-clause-fewer : goal.returns-then-is_empty-clause-fewer
returns-then-is_empty-clause-fewer g c =
    one_fewer c.args.blocks.now.items c.index_mut-block.result.now c.args.spot c.requires.spot _ (returns-then-is_empty-clause-pairs g c)

pub returns-else-is_empty-clause-fewer : goal.returns-else-is_empty-clause-fewer
returns-else-is_empty-clause-fewer g c =
    one_fewer c.args.blocks.now.items c.index_mut-block.result.now c.args.spot c.requires.spot _ (returns-else-is_empty-clause-pairs g c)

pub returns-then-is_empty-clause-in_order : goal.returns-then-is_empty-clause-in_order
returns-then-is_empty-clause-in_order g c =
    order_left c.args.blocks.now.items c.index_mut-block.result.now c.args.spot c.requires.spot c.requires.in_order _
    (returns-then-is_empty-clause-pairs g c)

pub returns-else-is_empty-clause-in_order : goal.returns-else-is_empty-clause-in_order
returns-else-is_empty-clause-in_order g c =
    order_left c.args.blocks.now.items c.index_mut-block.result.now c.args.spot c.requires.spot c.requires.in_order _
    (returns-else-is_empty-clause-pairs g c)

pub returns-then-is_empty-clause-pair : goal.returns-then-is_empty-clause-pair
returns-then-is_empty-clause-pair g c =
    let blocks = c.args.blocks.now.items in
    let spot = c.args.spot in
    let block = c.index_mut-block.result.now in
    let pair = c.remove-pair.result in
    let is = c.index_mut-block.ensures.value in
    let lt : spot.1 < length (items block) = rw is (c.requires.spot.within block) in
    slice_get_read (pairs_in blocks) (length (pairs_in blocks)) (place_at blocks spot) pair refl
    (in_range blocks block spot c.requires.spot)
    (read_of blocks spot.0 spot.1 block pair c.requires.spot.block is lt c.remove-pair.ensures.value pair)

pub returns-then-is_empty-clause-filled : goal.returns-then-is_empty-clause-filled
returns-then-is_empty-clause-filled g c =
    let blocks = c.args.blocks.now.items in
    subst (All IsFilled) (sym (c.remove.ensures.items ∙ remove_set blocks c.args.spot.0 _))
    (all_removed IsFilled blocks c.args.spot.0 c.requires.filled)

pub returns-else-is_empty-clause-pair : goal.returns-else-is_empty-clause-pair
returns-else-is_empty-clause-pair g c =
    let blocks = c.args.blocks.now.items in
    let spot = c.args.spot in
    let block = c.index_mut-block.result.now in
    let pair = c.remove-pair.result in
    let is = c.index_mut-block.ensures.value in
    let lt : spot.1 < length (items block) = rw is (c.requires.spot.within block) in
    slice_get_read (pairs_in blocks) (length (pairs_in blocks)) (place_at blocks spot) pair refl
    (in_range blocks block spot c.requires.spot)
    (read_of blocks spot.0 spot.1 block pair c.requires.spot.block is lt c.remove-pair.ensures.value pair)
