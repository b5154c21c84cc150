use Rattle.std.proofs.Common.{◌≡◌, List, sym, ap, subst, ◌∙◌}
use Rattle.hg_names.specs.declared.blocks.Block.{Block}
use Rattle.hg_names.specs.Names.{Held, without}
use Rattle.hg_names.specs.code.Blocks.{pairs_in, place_at, IsNamed}
use Rattle.hg_names.proofs.Edits.{without_place}
use Rattle.hg_names.proofs.names.Names.forget.Goals as goal

pub returns-in-Some-clause-names : goal.returns-in-Some-clause-names
returns-in-Some-clause-names g c =
    let blocks = c.self.inside.blocks.items in
    let name = c.args.name.now in
    let spot = c.in-Some.spot in
    let named : IsNamed blocks name spot = subst (λ (bs : List (Block g.row.A.Denot)). IsNamed bs name spot)
    c.as_slice.ensures.value c.in-Some.ensures.found in
    c.take_out.ensures.pairs
    ∙ sym (without_place (pairs_in blocks) name (place_at blocks spot) named.at c.self.invariant.in_order)
    ∙ ap (λ (h : Held). without h.pairs name) c.self.view_is

pub returns-in_default-clause-names : goal.returns-in_default-clause-names
returns-in_default-clause-names g c =
    let blocks = c.self.inside.blocks.items in
    let name = c.args.name.now in
    let stays : without (pairs_in blocks) name ≡ pairs_in blocks = subst
    (λ (bs : List (Block g.row.A.Denot)). without (pairs_in bs) name ≡ pairs_in bs)
    c.as_slice.ensures.value c.in_default.ensures.stays in
    ap (λ (h : Held). h.pairs) (sym c.self.view_is) ∙ sym stays ∙ ap (λ (h : Held). without h.pairs name) c.self.view_is
