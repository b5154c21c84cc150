use Rattle.std.proofs.Common.{ap}
use Rattle.std.proofs.lemmas.Option.{slice_get_within}
use Rattle.hg_sizes.specs.Bases.{text_at}
use Rattle.hg_sizes.proofs.Known.{text_of_row}
use Rattle.hg_sizes.proofs.bases.text_here.Goals as goal

pub text-requires : goal.text-requires
text-requires g c =
    let found = c.in-Some.ensures.found in
    slice_get_within c.args.log.now.rows c.in-Some.rev found.row found.row_at

pub returns-in-Some : goal.returns-in-Some
returns-in-Some g c =
    text_of_row c.args.log.now.rows c.args.node.now.0 c.in-Some.rev c.text.result.now c.in-Some.ensures.value
    c.text.ensures

pub returns-in-None : goal.returns-in-None
returns-in-None g c = ap (text_at c.args.log.now.rows) c.in-None.ensures.value
