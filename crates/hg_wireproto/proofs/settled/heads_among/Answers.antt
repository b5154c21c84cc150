use Rattle.std.proofs.Common.{◌∙◌, ap, refl}
use Rattle.hg_wireproto.proofs.Settling.{among_passed, among_pushed}
use Rattle.hg_wireproto.proofs.settled.heads_among.Goals as goal
use Rattle.hg_wireproto.proofs.settled.heads_among.Goals.{then-not-covered-rev+in_ok-push, else-not-covered-rev}

pub loop-rev-preserved : goal.loop-rev-preserved
loop-rev-preserved g c =
    let i = c.loop-rev.rev-index in
    elim c.if-not-covered-rev.branch [
      | then-not-covered-rev+in_ok-push w ↦
          among_pushed c.args.covered.now c.args.revs.now c.loop-rev.heads.items _ i _ c.loop-rev-test.true refl
          (c.requires i 0 c.loop-rev-test.true) (ap (λ v. v.items) w.heads-is ∙ w.in_ok-push.ensures.items)
          c.loop-rev.invariant
      | else-not-covered-rev w ↦
          among_passed c.args.covered.now c.args.revs.now c.loop-rev.heads.items _ i _ c.loop-rev-test.true refl
          w.if-not-covered-rev.false (ap (λ v. v.items) w.heads-is) c.loop-rev.invariant
    ]
