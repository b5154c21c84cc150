use Rattle.std.proofs.Common.{◌∙◌, ◌++◌, ◌<◌, All, length, take, ap, sym, subst}
use Rattle.std.specs.Option.{option_to_list}
use Rattle.hg_parts.specs.code.PhaseHeads.{heads_of}
use Rattle.hg_parts.proofs.Heads.{heads_more}
use Rattle.hg_parts.proofs.Revs.{within_more, some_within}
use Rattle.hg_parts.proofs.parts.phase_heads.heads_of.Goals as goal

pub loop-entry-preserved : goal.loop-entry-preserved
loop-entry-preserved g c =
    let rows = c.args.log.now.rows in
    let target = c.args.target in
    let entries = c.args.entries.now in
    let i = c.loop-entry.entry-index in
    record {
      made = c.in_ok-push_some.ensures
          ∙ ap (λ xs. xs ++ option_to_list c.head_in-head.result) c.loop-entry.invariant.made
          ∙ ap (λ o. heads_of rows target (take i entries) ++ option_to_list o) c.head_in-head.ensures.head
          ∙ sym (heads_more rows target entries i _ c.loop-entry-test.true);
      within = subst (λ xs. All (λ head. head < length rows) xs) (sym c.in_ok-push_some.ensures)
          (within_more (length rows) c.loop-entry.heads.items c.head_in-head.result
          c.loop-entry.invariant.within
          (some_within (length rows) c.head_in-head.result c.head_in-head.ensures.within));
    }
