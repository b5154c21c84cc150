use Rattle.std.proofs.Common.{◌≡◌, ℕ, List, Some, None, sym, ap, subst, ◌∙◌}
use Rattle.hg_types.specs.declared.node.Node.{Node}
use Rattle.hg_names.specs.declared.blocks.Block.{Block}
use Rattle.hg_names.specs.Names.{Held, node_of, without}
use Rattle.hg_names.specs.code.Blocks.{pairs_in, place_at, IsNamed}
use Rattle.std.proofs.lemmas.Option.{get_or_from_slice_get}
use Rattle.hg_names.proofs.Edits.{without_place}
use Rattle.hg_names.proofs.Lookups.{found_at}
use Rattle.hg_names.proofs.names.Names.remove.Goals as goal

pub returns-clause-names : goal.returns-clause-names
returns-clause-names g c =
    let blocks = c.self.inside.blocks.items in
    let name = c.args.name.now in
    let spot = c.in-Some.spot in
    let named : IsNamed blocks name spot = subst (λ (bs : List (Block g.row.A.Denot)). IsNamed bs name spot)
    c.as_slice.ensures.value c.in-Some.ensures.found in
    c.take_out-pair.ensures.pairs
    ∙ sym (without_place (pairs_in blocks) name (place_at blocks spot) named.at c.self.invariant.in_order)
    ∙ ap (λ (h : Held). without h.pairs name) c.self.view_is

pub returns-clause-name : goal.returns-clause-name
returns-clause-name g c =
    let blocks = c.self.inside.blocks.items in
    let name = c.args.name.now in
    let spot = c.in-Some.spot in
    let named : IsNamed blocks name spot = subst (λ (bs : List (Block g.row.A.Denot)). IsNamed bs name spot)
    c.as_slice.ensures.value c.in-Some.ensures.found in
    let pair = c.take_out-pair.result in
    ap (λ (p : List ℕ × Node). p.0)
    (sym (get_or_from_slice_get (pairs_in blocks) (place_at blocks spot) pair pair c.take_out-pair.ensures.pair))
    ∙ named.at.named pair

pub returns-clause-node : goal.returns-clause-node
returns-clause-node g c =
    let blocks = c.self.inside.blocks.items in
    let name = c.args.name.now in
    let spot = c.in-Some.spot in
    let named : IsNamed blocks name spot = subst (λ (bs : List (Block g.row.A.Denot)). IsNamed bs name spot)
    c.as_slice.ensures.value c.in-Some.ensures.found in
    let pair = c.take_out-pair.result in
    ap (λ (h : Held). node_of h.pairs name) (sym c.self.view_is)
    ∙ found_at (pairs_in blocks) name (place_at blocks spot) pair c.self.invariant.in_order named.at
    ∙ ap (λ (p : List ℕ × Node). Some p.1)
    (get_or_from_slice_get (pairs_in blocks) (place_at blocks spot) pair pair c.take_out-pair.ensures.pair)

pub returns-in_default-clause-names : goal.returns-in_default-clause-names
returns-in_default-clause-names g c =
    let blocks = c.self.inside.blocks.items in
    let name = c.args.name.now in
    let stays : without (pairs_in blocks) name ≡ pairs_in blocks = subst
    (λ (bs : List (Block g.row.A.Denot)). without (pairs_in bs) name ≡ pairs_in bs)
    c.as_slice.ensures.value c.in_default.ensures.stays in
    ap (λ (h : Held). h.pairs) (sym c.self.view_is) ∙ sym stays ∙ ap (λ (h : Held). without h.pairs name) c.self.view_is

pub returns-in_default-clause-none : goal.returns-in_default-clause-none
returns-in_default-clause-none g c =
    let blocks = c.self.inside.blocks.items in
    let name = c.args.name.now in
    let none : node_of (pairs_in blocks) name ≡ None = subst
    (λ (bs : List (Block g.row.A.Denot)). node_of (pairs_in bs) name ≡ None)
    c.as_slice.ensures.value c.in_default.ensures.none in
    ap (λ (h : Held). node_of h.pairs name) (sym c.self.view_is) ∙ none
