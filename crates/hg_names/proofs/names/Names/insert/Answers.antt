use Rattle.std.proofs.Common.{◌≡◌, List, [], Some, sym, ap, subst, ◌∙◌, arith, vec_len}
use Rattle.std.proofs.lemmas.Bool.{eqb-true}
use Rattle.std.proofs.lemmas.Grind.{common_steps}
use Rattle.std.proofs.lemmas.List.{nil_from_length}
use Rattle.hg_types.specs.declared.node.Node.{Node}
use Rattle.hg_names.specs.declared.blocks.Block.{Block}
use Rattle.hg_names.specs.Names.{Held, node_of, with_name}
use Rattle.hg_names.specs.code.Blocks.{pairs_in, place_at, IsNamed, IsFree}
use Rattle.hg_names.proofs.Edits.{with_moved}
use Rattle.hg_names.proofs.Lookups.{found_at, none_at, no_pair}
use Rattle.hg_names.proofs.names.Names.insert.Goals as goal

pub returns-then-is_empty-clause-was : goal.returns-then-is_empty-clause-was
returns-then-is_empty-clause-was g c =
    let name = c.args.name.now in
    let none : vec_len c.self.inside.blocks ≡ 0 = eqb-true _ _ (sym c.is_empty.ensures ∙ c.if-is_empty.true) in
    let nil : c.self.inside.blocks.items ≡ [] = nil_from_length c.self.inside.blocks.items
    (grind (arith, common_steps, none)) in
    ap (λ (bs : List (Block g.row.A.Denot)). node_of (pairs_in bs) name) (sym nil)
    ∙ ap (λ (h : Held). node_of h.pairs name) c.self.view_is

pub returns-in-Ok-clause-ok : goal.returns-in-Ok-clause-ok
returns-in-Ok-clause-ok g c =
    let blocks = c.self.inside.blocks.items in
    let name = c.args.name.now in
    let spot = c.in-Ok.spot in
    let named : IsNamed blocks name spot = subst (λ (bs : List (Block g.row.A.Denot)). IsNamed bs name spot)
    c.as_slice.ensures.value c.in-Ok.ensures.found in
    c.move_in.ensures.pairs
    ∙ sym (with_moved (pairs_in blocks) name (place_at blocks spot) named.at c.self.invariant.in_order c.args.node)
    ∙ ap (λ (h : Held). with_name h.pairs name c.args.node) c.self.view_is

pub returns-in-Ok-clause-was : goal.returns-in-Ok-clause-was
returns-in-Ok-clause-was g c =
    let blocks = c.self.inside.blocks.items in
    let name = c.args.name.now in
    let spot = c.in-Ok.spot in
    let named : IsNamed blocks name spot = subst (λ (bs : List (Block g.row.A.Denot)). IsNamed bs name spot)
    c.as_slice.ensures.value c.in-Ok.ensures.found in
    ap (λ (n : Node). Some n) (c.move_in.ensures.was no_pair)
    ∙ sym (found_at (pairs_in blocks) name (place_at blocks spot) no_pair c.self.invariant.in_order named.at)
    ∙ ap (λ (h : Held). node_of h.pairs name) c.self.view_is

pub add_at-requires-clause-free : goal.add_at-requires-clause-free
add_at-requires-clause-free g c =
    subst (λ (bs : List (Block g.row.A.Denot)). IsFree bs c.args.name.now c.in-Err.spot)
    c.as_slice.ensures.value c.in-Err.ensures.absent

pub returns-in_ok-add_at-in-Err-clause-was : goal.returns-in_ok-add_at-in-Err-clause-was
returns-in_ok-add_at-in-Err-clause-was g c =
    let blocks = c.self.inside.blocks.items in
    let name = c.args.name.now in
    let spot = c.in-Err.spot in
    let free : IsFree blocks name spot = subst (λ (bs : List (Block g.row.A.Denot)). IsFree bs name spot)
    c.as_slice.ensures.value c.in-Err.ensures.absent in
    sym (none_at (pairs_in blocks) name (place_at blocks spot) free.gap)
    ∙ ap (λ (h : Held). node_of h.pairs name) c.self.view_is
