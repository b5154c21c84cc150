use Rattle.std.proofs.Common.{◌≢◌, ap, arith, false, length, true}
use Rattle.std.proofs.lemmas.List.{length_push}
use Rattle.hg_wireproto.proofs.Hiding.{each_more}
use Rattle.hg_wireproto.proofs.covered.all_covered.Goals as goal

pub loop-rev-preserved : goal.loop-rev-preserved
loop-rev-preserved g c = (
  omega (arith, ap length c.in_ok-push.ensures.items, length_push c.loop-rev.covered.items true, c.loop-rev.invariant.0),
  omega (arith, c.loop-rev-test.true),
  each_more (λ r b. b ≢ false) c.loop-rev.covered.items _ true false c.loop-rev._rev c.loop-rev.invariant.0
      c.in_ok-push.ensures.items c.loop-rev.invariant.2 (λ e. cc),
)

pub returns-clause-len : goal.returns-clause-len
returns-clause-len g c = omega (arith, c.loop-rev.invariant.0, c.loop-rev.invariant.1, c.loop-rev-test.false)

pub returns-clause-all : goal.returns-clause-all
returns-clause-all g c r low =
    c.loop-rev.invariant.2 r (omega (arith, low, c.loop-rev.invariant.1, c.loop-rev-test.false))
