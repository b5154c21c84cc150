use Rattle.std.proofs.Common.{◌≡◌, List, None, ap, subst, ◌∙◌}
use Rattle.hg_names.specs.declared.blocks.Block.{Block}
use Rattle.hg_names.specs.Names.{Pairs, node_of}
use Rattle.hg_names.specs.code.Blocks.{pairs_in, place_at, IsFree}
use Rattle.hg_names.proofs.Lookups.{none_at}
use Rattle.hg_names.proofs.blocks.open_spot.Goals as goal

pub spot_free-requires-clause-absent : goal.spot_free-requires-clause-absent
spot_free-requires-clause-absent g c =
    let old = c.args.blocks.now.items in
    let name = c.args.name.now in
    let none : node_of (pairs_in old) name ≡ None = none_at (pairs_in old) name (place_at old c.args.spot)
    c.requires.free.gap in
    ap (λ (bs : List (Block g.row.A.Denot)). node_of (pairs_in bs) name) c.as_slice.ensures.value
    ∙ ap (λ (ps : Pairs). node_of ps name) c.in_ok-split.ensures.pairs ∙ none

pub returns-clause-free : goal.returns-clause-free
returns-clause-free g c =
    subst (λ (bs : List (Block g.row.A.Denot)). IsFree bs c.args.name.now c.spot_free.result)
    c.as_slice.ensures.value c.spot_free.ensures
