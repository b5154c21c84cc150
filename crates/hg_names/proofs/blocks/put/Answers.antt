use Rattle.std.proofs.Common.{ap, ◌∙◌}
use Rattle.std.specs.List.{insert}
use Rattle.hg_names.specs.declared.blocks.Block.{Block}
use Rattle.hg_names.proofs.Flat.{inserted, kept}
use Rattle.hg_names.proofs.Own.{items, on_err}
use Rattle.hg_names.proofs.blocks.put.Goals as goal

pub returns-clause-ok : goal.returns-clause-ok
returns-clause-ok g c =
    let spot = c.args.spot in
    let block = c.index_mut.result.now in
    let is = c.index_mut.ensures.value in
    inserted items c.args.blocks.now.items spot.0 block c.requires.spot.block _ spot.1 c.args.pair
    (c.requires.spot.within block)
    (c.in_ok-insert.ensures.items ∙ ap (λ (b : Block g.row.A.Denot). insert (items b) spot.1 c.args.pair) is)

pub returns-in_err-insert-clause-err : goal.returns-in_err-insert-clause-err
returns-in_err-insert-clause-err g c =
    let spot = c.args.spot in
    let block = c.index_mut.result.now in
    let is = c.index_mut.ensures.value in
    on_err c.from_residual.result _ (kept items c.args.blocks.now.items spot.0 block c.requires.spot.block _
    (c.in_err-insert.ensures.items ∙ ap (λ (b : Block g.row.A.Denot). items b) is))
