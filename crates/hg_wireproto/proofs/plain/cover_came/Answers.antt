use Rattle.std.proofs.Common.{◌≡◌, arith, length, List, subst, Bool}
use Rattle.hg_wireproto.specs.code.Covered.{AreCoveredTo, IsPlain}
use Rattle.hg_wireproto.proofs.Covering.{covered_pushed, covered_whole}
use Rattle.hg_wireproto.proofs.plain.cover_came.Goals as goal

pub loop-rev-preserved : goal.loop-rev-preserved
loop-rev-preserved g c =
    let rows = c.args.copied.now.rows in
    let markers = c.args.copied.now.markers in
    let phases = c.args.copied.now.phases in
    let rev = c.loop-rev.rev in (
      omega (arith, c.loop-rev-test.true, c.len-rev-end.ensures.len),
      covered_pushed rows markers phases rev c.len-rev-end.ensures.lawful c.loop-rev.covered.items
          (subst (λ (bs : List Bool). IsPlain rows markers phases bs rev) c.as_slice.ensures.value
          (c.is_plain.ensures c.if-not-is_plain.false)) c.loop-rev.invariant.1 c.cover_parents.new.covered.items _
          c.cover_parents.ensures.as_long c.in_ok-push.ensures.items c.cover_parents.ensures.each,
    )

pub returns : goal.returns
returns g c _ =
    let rows = c.args.copied.now.rows in
    let markers = c.args.copied.now.markers in
    let phases = c.args.copied.now.phases in
    let last : c.loop-rev.rev ≡ length rows =
    omega (arith, c.loop-rev.invariant.0, c.loop-rev-test.false, c.len-rev-end.ensures.len) in
    covered_whole rows markers phases c.len-rev-end.ensures.lawful c.loop-rev.covered.items
    (subst (λ n. AreCoveredTo rows markers phases n c.loop-rev.covered.items) last c.loop-rev.invariant.1)
