use Rattle.std.proofs.Common.{◌∙◌, ◌++◌, ◌<◌, ap, get_or, length, List, sym, subst, ℕ}
use Rattle.std.proofs.lemmas.List.{append-nil, get_or_default}
use Rattle.hg_wireproto.specs.BranchMap.{head_word, quoted}
use Rattle.hg_wireproto.proofs.BranchLines.{line_whole, lines_more}
use Rattle.hg_wireproto.proofs.branchmap.push_line.Goals as goal

pub loop-rev-init : goal.loop-rev-init
loop-rev-init g c =
    c.in_ok-push_quoted.ensures
    ∙ ap (λ (name : List ℕ). c.args.lines.now.items ++ quoted name) c.as_slice.ensures.value
    ∙ sym (append-nil (c.args.lines.now.items ++ quoted c.args.branch.now.name.items))

pub push_head-requires : goal.push_head-requires
push_head-requires g c =
    subst (λ (xs : List ℕ). (k : ℕ) (d : ℕ) → k < length xs → get_or xs k d < length c.args.copied.now.rows)
    (sym c.as_slice-rev-items.ensures.value) c.requires c.loop-rev.rev-index 0 c.loop-rev-test.true

pub loop-rev-preserved : goal.loop-rev-preserved
loop-rev-preserved g c =
    let items = c.as_slice-rev-items.result.now in
    let i = c.loop-rev.rev-index in
    lines_more (head_word c.args.copied.now.rows) items i (get_or items i 0)
    (c.args.lines.now.items ++ quoted c.args.branch.now.name.items) c.loop-rev.lines.items _ c.loop-rev-test.true
    (sym (get_or_default items i (get_or items i 0) 0 c.loop-rev-test.true)) c.loop-rev.invariant
    c.in_ok-push_head.ensures

pub returns : goal.returns
returns g c =
    line_whole (head_word c.args.copied.now.rows) c.args.lines.now.items (quoted c.args.branch.now.name.items)
    c.loop-rev.lines.items _ c.as_slice-rev-items.result.now _ c.loop-rev.rev-index c.loop-rev-test.false
    c.as_slice-rev-items.ensures.value c.loop-rev.invariant c.in_ok-push.ensures.items
