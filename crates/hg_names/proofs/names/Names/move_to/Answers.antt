use Rattle.std.proofs.Common.{List, sym, ap, subst, ◌∙◌}
use Rattle.hg_names.specs.declared.blocks.Block.{Block}
use Rattle.hg_names.specs.Names.{Held, with_name}
use Rattle.hg_names.specs.code.Blocks.{pairs_in, place_at, IsNamed}
use Rattle.hg_names.proofs.Edits.{with_moved}
use Rattle.hg_names.proofs.names.Names.move_to.Goals as goal

pub returns-clause-moved : goal.returns-clause-moved
returns-clause-moved g c =
    let blocks = c.self.inside.blocks.items in
    let name = c.args.name.now in
    let spot = c.spot_named-spot.result in
    let named : IsNamed blocks name spot = subst (λ (bs : List (Block g.row.A.Denot)). IsNamed bs name spot)
    c.as_slice.ensures.value c.spot_named-spot.ensures in
    c.move_in.ensures.pairs
    ∙ sym (with_moved (pairs_in blocks) name (place_at blocks spot) named.at c.self.invariant.in_order c.args.node)
    ∙ ap (λ (h : Held). with_name h.pairs name c.args.node) c.self.view_is
