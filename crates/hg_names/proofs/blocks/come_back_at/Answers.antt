use Rattle.std.proofs.Common.{◌≡◌, ◌+◌, ◌<◌, ◌≤◌, [], ◌∷◌, ◌++◌, length, sym, ap, ◌∙◌, subst, arith}
use Rattle.std.specs.List.{insert, All}
use Rattle.std.proofs.lemmas.List.Edits.{length-insert}
use Rattle.std.proofs.lemmas.List.Elements.{All-set}
use Rattle.hg_names.specs.declared.blocks.Block.{Block}
use Rattle.hg_names.specs.Names.{Pairs}
use Rattle.hg_names.specs.code.Blocks.{pairs_in, IsFilled}
use Rattle.hg_names.proofs.Flat.{inserted, inserted_in_two}
use Rattle.hg_names.proofs.Filled.{all_inserted}
use Rattle.hg_names.proofs.Own.{items, where_ok}
use Rattle.hg_names.proofs.blocks.come_back_at.Goals as goal

pub returns-then-len-capacity-clause-pairs : goal.returns-then-len-capacity-clause-pairs
returns-then-len-capacity-clause-pairs g c =
    let blocks = c.args.blocks.now.items in
    let spot = c.args.spot in
    let block = c.index_mut-block.result.now in
    let is = c.index_mut-block.ensures.value in
    let made = c.insert.ensures.items ∙ where_ok c.insert.result c.unwrap.result _ _ c.unwrap.ensures in
    inserted items blocks spot.0 block c.requires.spot.block _ spot.1 c.args.pair (c.requires.spot.within block)
    (made ∙ ap (λ (b : Block g.row.A.Denot). insert (items b) spot.1 c.args.pair) is)

pub returns-then-len-capacity-clause-filled : goal.returns-then-len-capacity-clause-filled
returns-then-len-capacity-clause-filled g c =
    let blocks = c.args.blocks.now.items in
    let spot = c.args.spot in
    let block = c.index_mut-block.result.now in
    let is = c.index_mut-block.ensures.value in
    let made = c.insert.ensures.items ∙ where_ok c.insert.result c.unwrap.result _ _ c.unwrap.ensures in
    let own : spot.1 ≤ length (items block) = rw is (c.requires.spot.within block) in
    let some : 0 < length c.insert.new.self.items = rw made
    (omega (arith, length-insert (items block) spot.1 c.args.pair own)) in
    All-set IsFilled blocks spot.0 _ some c.requires.filled

pub returns-clause-pairs : goal.returns-clause-pairs
returns-clause-pairs g c =
    let blocks = c.args.blocks.now.items in
    let spot = c.args.spot in
    let block = c.index_mut-block.result.now in
    let is = c.index_mut-block.ensures.value in
    let made = c.insert-2.ensures.items ∙ where_ok c.insert-2.result c.unwrap-2.result _ _ c.unwrap-2.ensures in
    let upper : c.push_reserved.new.self.items ≡ c.with_last_out-last.result ∷ [] =
    c.push_reserved.ensures.items ∙ ap (λ (l : Pairs). l ++ c.with_last_out-last.result ∷ []) c.requires.empty in
    let whole = ap (λ (l : Pairs). c.with_last_out-last.new.pairs.items ++ l) upper
    ∙ c.with_last_out-last.ensures.pairs
    ∙ ap (λ (b : Block g.row.A.Denot). insert (items b) spot.1 c.args.pair) is in
    ap pairs_in made
    ∙ inserted_in_two items blocks spot.0 block c.requires.spot.block _ _ spot.1 c.args.pair (c.requires.spot.within block) whole

pub returns-clause-filled : goal.returns-clause-filled
returns-clause-filled g c =
    let blocks = c.args.blocks.now.items in
    let spot = c.args.spot in
    let made = c.insert-2.ensures.items ∙ where_ok c.insert-2.result c.unwrap-2.result _ _ c.unwrap-2.ensures in
    let upper : c.push_reserved.new.self.items ≡ c.with_last_out-last.result ∷ [] =
    c.push_reserved.ensures.items ∙ ap (λ (l : Pairs). l ++ c.with_last_out-last.result ∷ []) c.requires.empty in
    let some : 0 < length c.push_reserved.new.self.items = rw upper (omega arith) in
    subst (All IsFilled) (sym made)
    (all_inserted IsFilled _ (spot.0 + 1) _
    (All-set IsFilled blocks spot.0 _ c.with_last_out-last.ensures.filled c.requires.filled) some)
