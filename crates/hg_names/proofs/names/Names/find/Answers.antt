use Rattle.std.proofs.Common.{◌≡◌, ℕ, ◌<◌, List, length, Some, None, sym, ap, subst, ◌∙◌, rules}
use Rattle.hg_types.specs.declared.node.Node.{Node}
use Rattle.hg_names.specs.declared.blocks.Block.{Block}
use Rattle.hg_names.specs.Names.{Held, node_of}
use Rattle.hg_names.specs.code.Blocks.{pairs_in, place_at, IsNamed}
use Rattle.hg_names.proofs.Own.{items, read_of}
use Rattle.hg_names.proofs.Lookups.{found_at}
use Rattle.hg_names.proofs.names.Names.find.Goals as goal

pub returns : goal.returns
returns g c =
    let blocks = c.self.inside.blocks.items in
    let name = c.args.name.now in
    let spot = c.in_ok-spot.spot in
    let block = c.index.result.now in
    let pair = c.index-2.result.now in
    let named : IsNamed blocks name spot = subst (λ (bs : List (Block g.row.A.Denot)). IsNamed bs name spot)
    c.as_slice.ensures.value c.in_ok-spot.ensures.found in
    let lt : spot.1 < length (items block) = rw c.index.ensures (named.within.within block) in
    let read = read_of blocks spot.0 spot.1 block pair named.within.block c.index.ensures lt c.index-2.ensures pair in
    ap (λ (p : List ℕ × Node). Some p.1) read
    ∙ sym (found_at (pairs_in blocks) name (place_at blocks spot) pair c.self.invariant.in_order named.at)
    ∙ ap (λ (h : Held). node_of h.pairs name) c.self.view_is

pub returns-in_err-spot : goal.returns-in_err-spot
returns-in_err-spot g c =
    let name = c.args.name.now in
    let none : node_of (pairs_in c.self.inside.blocks.items) name ≡ None = subst
    (λ (bs : List (Block g.row.A.Denot)). node_of (pairs_in bs) name ≡ None)
    c.as_slice.ensures.value c.in_err-spot.ensures.none in
    let told : c.from_residual.result ≡ None = search rules in
    told ∙ sym none ∙ ap (λ (h : Held). node_of h.pairs name) c.self.view_is
