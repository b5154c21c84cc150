use Rattle.std.proofs.Common.{◌≡◌, ℕ, List, [], sym, ap, subst, ◌∙◌, arith, vec_len}
use Rattle.std.proofs.lemmas.Bool.{eqb-true}
use Rattle.std.proofs.lemmas.Grind.{common_steps}
use Rattle.std.proofs.lemmas.List.{nil_from_length}
use Rattle.hg_names.specs.declared.blocks.Block.{Block}
use Rattle.hg_names.specs.Names.{with_name}
use Rattle.hg_names.specs.code.Blocks.{pairs_in, place_at, IsFree}
use Rattle.hg_names.proofs.Edits.{with_gap, with_first}
use Rattle.hg_names.specs.Names.{AreInOrder}
use Rattle.hg_names.proofs.InOrder.{in_order_with}
use Rattle.hg_names.proofs.blocks.come_back.Goals as goal

pub returns-then-is_empty-clause-pairs : goal.returns-then-is_empty-clause-pairs
returns-then-is_empty-clause-pairs g c =
    let pair = c.args.pair in
    let none : vec_len c.args.blocks.now ≡ 0 = eqb-true _ _ (sym c.is_empty.ensures ∙ c.if-is_empty.true) in
    let nil : c.args.blocks.now.items ≡ [] = nil_from_length c.args.blocks.now.items
    (grind (arith, common_steps, none)) in
    c.come_first.ensures.pairs ∙ sym (with_first pair)
    ∙ ap (λ (bs : List (Block g.row.A.Denot)). with_name (pairs_in bs) pair.0 pair.1) (sym nil)

pub returns-clause-pairs : goal.returns-clause-pairs
returns-clause-pairs g c =
    let blocks = c.args.blocks.now.items in
    let pair = c.args.pair in
    let spot = c.spot_free-spot.result in
    let free : IsFree blocks pair.0 spot = subst (λ (n : List ℕ). IsFree blocks n spot) c.as_slice-2.ensures
    (subst (λ (bs : List (Block g.row.A.Denot)). IsFree bs c.as_slice-2.result.now spot) c.as_slice.ensures.value
    c.spot_free-spot.ensures) in
    c.come_back_at.ensures.pairs
    ∙ sym (with_gap (pairs_in blocks) pair.0 (place_at blocks spot) pair.1 free.gap)

pub returns-then-is_empty-clause-in_order : goal.returns-then-is_empty-clause-in_order
returns-then-is_empty-clause-in_order g c =
    let pair = c.args.pair in
    subst AreInOrder (sym (returns-then-is_empty-clause-pairs g c))
    (in_order_with (pairs_in c.args.blocks.now.items) pair.0 c.requires.in_order pair.1)

pub returns-clause-in_order : goal.returns-clause-in_order
returns-clause-in_order g c =
    let pair = c.args.pair in
    subst AreInOrder (sym (returns-clause-pairs g c))
    (in_order_with (pairs_in c.args.blocks.now.items) pair.0 c.requires.in_order pair.1)
