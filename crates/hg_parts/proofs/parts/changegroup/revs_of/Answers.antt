use Rattle.std.proofs.Common.{◌∙◌, ◌++◌, ◌<◌, All, length, take, ap, sym, subst}
use Rattle.std.specs.Option.{option_to_list}
use Rattle.hg_parts.specs.parts.Changegroup.{revs_of}
use Rattle.hg_parts.proofs.Revs.{revs_more, within_more, rev_within}
use Rattle.hg_parts.proofs.parts.changegroup.revs_of.Goals as goal

pub loop-entry-preserved : goal.loop-entry-preserved
loop-entry-preserved g c =
    let rows = c.args.log.now.rows in
    let entries = c.args.entries.now in
    let i = c.loop-entry.entry-index in
    let entry = c.entry-item.result in
    record {
      made = c.in_ok-push_some.ensures
          ∙ ap (λ xs. xs ++ option_to_list c.rev_of-rev.result) c.loop-entry.invariant.made
          ∙ ap (λ o. revs_of rows (take i entries) ++ option_to_list o) c.rev_of-rev.ensures.value
          ∙ sym (revs_more rows entries i entry c.loop-entry-test.true c.entry-item.is);
      within = subst (λ xs. All (λ rev. rev < length rows) xs) (sym c.in_ok-push_some.ensures)
          (within_more (length rows) c.loop-entry.revs.items c.rev_of-rev.result c.loop-entry.invariant.within
          (rev_within rows entry.node.0 c.rev_of-rev.result c.rev_of-rev.ensures.found));
    }
