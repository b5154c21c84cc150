use Rattle.std.proofs.Common.{◌≡◌, ℕ, List, sym, ap, subst, ◌∙◌}
use Rattle.hg_names.specs.Names.{Pairs, with_name}
use Rattle.hg_names.specs.code.Blocks.{pairs_in, place_at, IsFree}
use Rattle.hg_names.proofs.Edits.{with_gap}
use Rattle.hg_names.proofs.Own.{ok_map, either_way}
use Rattle.hg_names.specs.Names.{AreInOrder}
use Rattle.hg_names.proofs.InOrder.{in_order_with}
use Rattle.hg_names.proofs.blocks.join.Goals as goal

pub returns-clause-ok : goal.returns-clause-ok
returns-clause-ok g c =
    let blocks = c.open_spot.new.blocks.items in
    let pair = c.args.pair in
    let spot = c.in_ok-spot.spot in
    let free : IsFree blocks pair.0 spot = subst (λ (n : List ℕ). IsFree blocks n spot) c.as_slice.ensures
    c.in_ok-spot.ensures.free in
    ok_map c.put.result _ _
    (λ is. is ∙ sym (with_gap (pairs_in blocks) pair.0 (place_at blocks spot) pair.1 free.gap)
    ∙ ap (λ (ps : Pairs). with_name ps pair.0 pair.1) c.in_ok-spot.ensures.pairs)
    c.put.ensures.ok

pub returns-in_err-spot-clause-in_order : goal.returns-in_err-spot-clause-in_order
returns-in_err-spot-clause-in_order g c = subst AreInOrder (sym c.in_err-spot.ensures.pairs) c.requires.in_order

pub returns-clause-in_order : goal.returns-clause-in_order
returns-clause-in_order g c =
    let pairs = pairs_in c.args.blocks.now.items in
    let pair = c.args.pair in
    let new = pairs_in c.put.new.blocks.items in
    either_way c.put.result (new ≡ with_name pairs pair.0 pair.1) (new ≡ pairs_in c.open_spot.new.blocks.items)
    (AreInOrder new)
    (λ is. subst AreInOrder (sym is) (in_order_with pairs pair.0 c.requires.in_order pair.1))
    (λ is. subst AreInOrder (sym (is ∙ c.in_ok-spot.ensures.pairs)) c.requires.in_order)
    (returns-clause-ok g c) c.put.ensures.err
