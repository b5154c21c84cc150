use Rattle.std.proofs.Common.{arith, refl, rules}
use Rattle.hg_wireproto.proofs.NumberSets.{joined_all, joined_more, joined_none}
use Rattle.hg_wireproto.proofs.set.NumberSet.and.Goals as goal

pub loop-place-init : goal.loop-place-init
loop-place-init c = (search rules, search rules, joined_none c.args.self.words c.args.other.words)

pub loop-place-preserved : goal.loop-place-preserved
loop-place-preserved c = (
  c.loop-place.invariant.0,
  c.loop-place.invariant.1,
  joined_more c.loop-place.place c.args.self.words c.args.other.words c.loop-place.words _
      (omega (arith, c.loop-place-test.true, c.loop-place.invariant.0)) c.loop-place.invariant.2 refl,
)

pub returns : goal.returns
returns c =
    joined_all c.loop-place.place c.args.self.words c.args.other.words c.loop-place.words
    (omega (arith, c.loop-place-test.false, c.loop-place.invariant.0))
    (omega (arith, c.loop-place.invariant.0, c.loop-place.invariant.1)) c.loop-place.invariant.2
