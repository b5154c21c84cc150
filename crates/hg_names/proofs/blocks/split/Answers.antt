use Rattle.std.proofs.Common.{◌≡◌, ◌+◌, ◌/◌, ◌<◌, ◌≤◌, ◌++◌, length, get_or, drop, sym, ap, ◌∙◌, subst, arith}
use Rattle.std.specs.List.{All}
use Rattle.std.proofs.lemmas.Grind.{common_steps}
use Rattle.std.proofs.lemmas.List.{take-append-drop, length-take, length-drop}
use Rattle.std.proofs.lemmas.List.Elements.{All-set}
use Rattle.hg_names.specs.declared.blocks.Block.{Block}
use Rattle.hg_names.specs.code.Blocks.{pairs_in, IsFilled}
use Rattle.hg_names.proofs.Flat.{in_two}
use Rattle.hg_names.proofs.Filled.{all_inserted}
use Rattle.hg_names.proofs.Own.{items, where_ok}
use Rattle.hg_names.proofs.blocks.split.Goals as goal

pub returns-clause-pairs : goal.returns-clause-pairs
returns-clause-pairs g c =
    let blocks = c.reserve.new.self.items in
    let block = c.index_mut-lower.result.now in
    let half = c.len-half.result / 2 in
    let made = c.insert.ensures.items ∙ where_ok c.insert.result c.unwrap.result _ _ c.unwrap.ensures in
    let is = c.index_mut-lower.ensures.value in
    let within : c.args.block < length blocks = rw c.reserve.ensures.items c.requires.within in
    let whole : items (get_or blocks c.args.block block) ≡ c.split_off.new.self.items ++ c.in_ok-pairs.pairs.items =
    sym (ap (λ (b : Block g.row.A.Denot). items b) is) ∙ sym (take-append-drop half (items block))
    ∙ ap (λ l. l ++ drop half (items block)) (sym c.in_ok-pairs.ensures.items)
    ∙ ap (λ l. c.split_off.new.self.items ++ l) (sym c.in_ok-pairs.ensures.tail) in
    ap pairs_in made ∙ in_two items blocks c.args.block block within _ _ whole
    ∙ ap pairs_in c.reserve.ensures.items

pub returns-clause-filled : goal.returns-clause-filled
returns-clause-filled g c =
    let blocks = c.reserve.new.self.items in
    let block = c.index_mut-lower.result.now in
    let half = c.len-half.result / 2 in
    let made = c.insert.ensures.items ∙ where_ok c.insert.result c.unwrap.result _ _ c.unwrap.ensures in
    let is = c.index_mut-lower.ensures.value in
    let filled : All IsFilled blocks = subst (All IsFilled) (sym c.reserve.ensures.items) c.requires.filled in
    let full : 2 ≤ length (items (get_or blocks c.args.block block)) =
    rw c.reserve.ensures.items (c.requires.full block) in
    let own : 2 ≤ length (items block) = rw is full in
    let size : half + half ≤ length (items block) = grind (arith, common_steps, c.len-half.ensures) in
    let some : 0 < half = grind (arith, common_steps, own, c.len-half.ensures) in
    let lower : 0 < length c.split_off.new.self.items = rw c.in_ok-pairs.ensures.items
    (omega (arith, length-take half (items block), some, size)) in
    let upper : 0 < length c.in_ok-pairs.pairs.items = rw c.in_ok-pairs.ensures.tail
    (omega (arith, length-drop half (items block), some, size)) in
    subst (All IsFilled) (sym made)
    (all_inserted IsFilled _ (c.args.block + 1) _ (All-set IsFilled blocks c.args.block _ lower filled) upper)
