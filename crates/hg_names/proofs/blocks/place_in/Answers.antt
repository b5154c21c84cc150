use Rattle.std.proofs.Common.{rules}
use Rattle.std.proofs.lemmas.Fn.{always_returns_same}
use Rattle.hg_names.specs.Names.{name_cmp}
use Rattle.hg_names.proofs.Search.{searched}
use Rattle.hg_names.proofs.blocks.place_in.Goals as goal

pub returns-clause-found : goal.returns-clause-found
returns-clause-found g c =
    let facts = c.binary_search_by.ensures in
    let compared = facts.position (λ pair. name_cmp pair.0 c.args.name.now)
    (always_returns_same _ _ _ (λ a r h called. (search rules, search rules))) in
    (searched c.args.pairs.now c.args.name.now c.binary_search_by.result c.requires facts.bound compared).0

pub returns-clause-absent : goal.returns-clause-absent
returns-clause-absent g c =
    let facts = c.binary_search_by.ensures in
    let compared = facts.position (λ pair. name_cmp pair.0 c.args.name.now)
    (always_returns_same _ _ _ (λ a r h called. (search rules, search rules))) in
    (searched c.args.pairs.now c.args.name.now c.binary_search_by.result c.requires facts.bound compared).1
