use Rattle.std.proofs.Common.{◌∙◌, List, ap, map}
use Rattle.std.proofs.lemmas.List.{take_all}
use Rattle.hg_types.specs.declared.entry.Entry.{Entry}
use Rattle.hg_weighing.specs.Lengths.{length_in}
use Rattle.hg_weighing.proofs.lengths.lengths_of_bases.Goals as goal

pub returns : goal.returns
returns g c =
    c.from_vec.ensures
    ∙ (c.loop-entry.invariant
    ∙ ap (λ (es : List (Entry g.row.A.Denot)). map (λ (entry : Entry g.row.A.Denot).
    length_in c.args.log.now.rows entry.base) es)
    (take_all c.loop-entry.entry-index c.args.entries.now c.loop-entry-test.false))
