use Rattle.std.proofs.Common.{◌≡◌, ◌<◌, [], ◌∷◌, ◌++◌, length, get_or, take, sym, ap, ◌∙◌, subst, arith}
use Rattle.std.specs.List.{All}
use Rattle.std.proofs.lemmas.List.{take_more}
use Rattle.std.proofs.lemmas.List.Concat.{flat_map-append}
use Rattle.std.proofs.lemmas.List.Elements.{All-append}
use Rattle.hg_names.specs.declared.blocks.Block.{Block}
use Rattle.hg_names.specs.Names.{Pairs}
use Rattle.hg_names.specs.code.Blocks.{pairs_in, IsFilled}
use Rattle.hg_names.proofs.Filled.{all_one}
use Rattle.hg_names.proofs.Own.{items}
use Rattle.hg_names.proofs.blocks.copies.Goals as goal

pub loop-block-preserved : goal.loop-block-preserved
loop-block-preserved g c =
    let blocks = c.args.blocks.now in
    let copies = c.loop-block.copies.items in
    let number = c.loop-block.block-index in
    let block = c.block-item.result in
    let within : number < length blocks = omega (arith, c.loop-block-test.true) in
    let same : c.in_ok-pairs.pairs.items ≡ items (get_or blocks number block) =
    c.in_ok-pairs.ensures ∙ c.as_slice.ensures.value ∙ ap (λ (b : Block g.row.A.Denot). items b) c.block-item.is in
    let pushed = c.in_ok-push.ensures.items in
    let some : 0 < length c.in_ok-pairs.pairs.items = rw same (c.requires.filled number block within) in
    record {
      pairs = ap pairs_in pushed ∙ flat_map-append items copies _
          ∙ ap (λ (l : Pairs). l ++ (c.in_ok-pairs.pairs.items ++ [])) c.loop-block.invariant.pairs
          ∙ ap (λ (l : Pairs). pairs_in (take number blocks) ++ (l ++ [])) same
          ∙ sym (ap pairs_in (take_more blocks number block within)
          ∙ flat_map-append items (take number blocks) (get_or blocks number block ∷ []));
      filled = subst (All IsFilled) (sym pushed)
          (All-append IsFilled copies _ c.loop-block.invariant.filled (all_one IsFilled _ some));
    }
