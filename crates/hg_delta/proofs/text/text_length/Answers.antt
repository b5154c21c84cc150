use Rattle.hg_delta.specs.code.View.{view}
use Rattle.hg_delta.proofs.Hunks.{measured_more, measured_all}
use Rattle.std.proofs.Common.{◌≡◌, List, ℕ, [], sym, subst}
use Rattle.std.proofs.lemmas.List.{nil_from_length}
use Rattle.hg_delta.proofs.Hunks.{Measured}
use Rattle.std.proofs.lemmas.Bool.{eqb-true}
use Rattle.hg_delta.proofs.text.text_length.Goals as goal

pub loop-rest-preserved : goal.loop-rest-preserved
loop-rest-preserved c =
    measured_more c.args.base.now c.args.delta.now c.loop-rest.rest.now c.in_ok-hunk.after.now c.loop-rest.end
    c.loop-rest.length (view c.in_ok-hunk.hunk)
    c.loop-rest.invariant c.in_ok-hunk.ensures.placed c.in_ok-hunk.ensures.spelled

pub returns-clause-length : goal.returns-clause-length
returns-clause-length c =
    let base = c.args.base.now in
    let delta = c.args.delta.now in
    let ended : c.loop-rest.rest.now ≡ [] = nil_from_length c.loop-rest.rest.now
    (eqb-true _ _ (sym c.loop-rest-test.ensures)) in
    measured_all base delta c.loop-rest.end c.loop-rest.length
    (subst (λ (rest : List ℕ). Measured base delta c.loop-rest.end rest c.loop-rest.length) ended
    c.loop-rest.invariant)
