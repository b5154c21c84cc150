use Rattle.std.proofs.Common.{◌≡◌, ◌↔◌, ◌∙◌, ap, arith, false, get_or, length, subst, sym, Bool, List, ℕ}
use Rattle.std.proofs.lemmas.List.{length_push}
use Rattle.hg_wireproto.specs.code.Covered.{IsOwnParent}
use Rattle.hg_wireproto.proofs.Doubts.{out_more, out_same}
use Rattle.hg_wireproto.proofs.doubt.left_out.Goals as goal
use Rattle.hg_wireproto.proofs.doubt.left_out.Goals.{then-not-hidden-rev, else-not-hidden-rev}

pub loop-rev-preserved : goal.loop-rev-preserved
loop-rev-preserved g c =
    let rows = c.args.copied.now.rows in
    let hidden = c.args.hidden.now in
    let n = c.loop-rev.rev in
    let old = c.loop-rev.out.items in
    let two = c.if-not-hidden-rev.out.items in
    let held = c.loop-rev.invariant in
    let pushed = c.in_ok-push.ensures.items in
    let lawful = c.len.ensures.lawful in
    elim c.if-not-hidden-rev.branch [
      | then-not-hidden-rev w ↦
          let same = ap (λ v. v.items) w.out-is in
          let long : length two ≡ n = ap length same ∙ w.cover_parents.ensures.as_long ∙ held.0 in (
            omega (arith, ap length pushed, length_push two (get_or hidden n false), long),
            omega (arith, c.loop-rev-test.true, c.len-rev-end.ensures.len),
            out_more rows lawful hidden n old two _ long pushed held.2 w.if-not-hidden-rev.true
                (subst (λ (bs : List Bool). (r : ℕ) → (get_or bs r false ≡ false)
                ↔ ((get_or old r false ≡ false) × ¬ (IsOwnParent rows r n))) (sym same) w.cover_parents.ensures.each),
          )
      | else-not-hidden-rev w ↦
          let same = ap (λ v. v.items) w.out-is in
          let long : length two ≡ n = ap length same ∙ held.0 in (
            omega (arith, ap length pushed, length_push two (get_or hidden n false), long),
            omega (arith, c.loop-rev-test.true, c.len-rev-end.ensures.len),
            out_same rows lawful hidden n old two _ long pushed held.2 w.if-not-hidden-rev.false same,
          )
    ]
