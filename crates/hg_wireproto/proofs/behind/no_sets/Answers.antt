use Rattle.std.proofs.Common.{◌∙◌, ap, get_or, List, ℕ, arith, length}
use Rattle.std.proofs.lemmas.List.{length_push}
use Rattle.hg_wireproto.proofs.Gathering.{none_more}
use Rattle.hg_wireproto.proofs.behind.no_sets.Goals as goal

pub loop-rev-preserved : goal.loop-rev-preserved
loop-rev-preserved g c = (
  omega (arith, ap length c.in_ok-push.ensures.items, length_push c.loop-rev.sets.items 0, c.loop-rev.invariant.0),
  omega (arith, c.loop-rev-test.true),
  λ r. ap (λ (xs : List ℕ). get_or xs r 0) c.in_ok-push.ensures.items
      ∙ none_more c.loop-rev.sets.items r c.loop-rev.invariant.2,
)

pub returns-clause-len : goal.returns-clause-len
returns-clause-len g c = omega (arith, c.loop-rev.invariant.0, c.loop-rev.invariant.1, c.loop-rev-test.false)

pub returns-clause-none : goal.returns-clause-none
returns-clause-none g c = c.loop-rev.invariant.2
