use Rattle.std.proofs.Common.{List, sym, ap, subst, ◌∙◌}
use Rattle.hg_names.specs.declared.blocks.Block.{Block}
use Rattle.hg_names.specs.Names.{Held, with_name}
use Rattle.hg_names.specs.code.Blocks.{pairs_in, place_at, IsNamed, IsFree}
use Rattle.hg_names.proofs.Edits.{with_moved}
use Rattle.hg_names.proofs.names.Names.set.Goals as goal

pub returns-in-Ok-clause-ok : goal.returns-in-Ok-clause-ok
returns-in-Ok-clause-ok g c =
    let blocks = c.self.inside.blocks.items in
    let name = c.args.name.now in
    let spot = c.in-Ok.spot in
    let named : IsNamed blocks name spot = subst (λ (bs : List (Block g.row.A.Denot)). IsNamed bs name spot)
    c.as_slice.ensures.value c.in-Ok.ensures.found in
    c.move_in.ensures.pairs
    ∙ sym (with_moved (pairs_in blocks) name (place_at blocks spot) named.at c.self.invariant.in_order c.args.node)
    ∙ ap (λ (h : Held). with_name h.pairs name c.args.node) c.self.view_is

pub add_at-requires-clause-free : goal.add_at-requires-clause-free
add_at-requires-clause-free g c =
    subst (λ (bs : List (Block g.row.A.Denot)). IsFree bs c.args.name.now c.in-Err.spot)
    c.as_slice.ensures.value c.in-Err.ensures.absent
