use Rattle.std.proofs.Common.{◌≡◌, [], refl, sym, subst}
use Rattle.std.proofs.lemmas.Bool.{false≢true}
use Rattle.std.proofs.lemmas.List.{nil_from_length}
use Rattle.hg_params.specs.Header.{AreDistinct}
use Rattle.hg_params.proofs.Keys.{param_keys, distinct_more, not_distinct}
use Rattle.hg_params.proofs.params.are_distinct.Goals as goal

pub returns-then-has_key : goal.returns-then-has_key
returns-then-has_key g c = (
  λ e. absurd (false≢true e),
  λ d. absurd (not_distinct c.in-Some.first.now c.in-Some.later.now c.loop-first.rest.now
      c.as_slice.result.now c.has_key.result c.in-Some.ensures.cases.0 c.as_slice.ensures c.has_key.ensures
      c.if-has_key.true (c.loop-first.invariant.1 d)),
)

pub loop-first-preserved : goal.loop-first-preserved
loop-first-preserved g c =
    let step = distinct_more c.in-Some.first.now c.in-Some.later.now c.loop-first.rest.now
    c.as_slice.result.now c.has_key.result c.in-Some.ensures.cases.0 c.as_slice.ensures c.has_key.ensures
    c.if-has_key.false in
    (λ d. c.loop-first.invariant.0 (step.0 d), λ d. step.1 (c.loop-first.invariant.1 d))

pub returns : goal.returns
unfolding AreDistinct
returns g c =
    let none : c.loop-first.rest.now ≡ [] = nil_from_length _ c.in_default.ensures.cases in
    (λ _. c.loop-first.invariant.0 (subst (λ ps. AreDistinct (param_keys ps)) (sym none) tt), λ _. refl)
