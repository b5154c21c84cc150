use Rattle.std.proofs.Common.{◌≡◌, ◌++◌, List, ℕ, sym, ap, subst, ◌∙◌, append_assoc}
use Rattle.std.specs.Prelude.{slice_range}
use Rattle.hg_delta.specs.Delta.{piece_of}
use Rattle.hg_delta.specs.code.View.{view}
use Rattle.hg_delta.proofs.Hunks.{Took, took_more}
use Rattle.hg_delta.proofs.text.write_text.Goals as goal

pub loop-rest-preserved : goal.loop-rest-preserved
loop-rest-preserved g c =
    let base = c.args.base.now in
    let delta = c.args.delta.now in
    let hunk = view c.in_ok-hunk.hunk in
    let text = c.loop-rest.text.items in
    let kept = slice_range base c.loop-rest.end hunk.start in
    let placed = c.in_ok-hunk.ensures.placed in
    let more = took_more base delta c.loop-rest.rest.now c.in_ok-hunk.after.now text c.loop-rest.end hunk
    c.loop-rest.invariant.took placed c.in_ok-hunk.ensures.spelled in
    let joined : c.extend_from_slice-in-loop-rest.new.self.items ≡ text
    ++ piece_of base (c.loop-rest.end, hunk) =
    c.in_ok-extend_from_slice-2.ensures.items
    ∙ ap (λ (x : List ℕ). x ++ c.in_ok-hunk.hunk.content.now) c.in_ok-extend_from_slice.ensures.items
    ∙ append_assoc text kept c.in_ok-hunk.hunk.content.now in
    record {
      took = subst (Took base delta hunk.end c.in_ok-hunk.after.now) (sym joined) more;
      within = placed.within;
    }
