use Rattle.std.proofs.Common.{ap, arith, subst, ℕ, Some, ◌≡◌, ◌∙◌, sym, true}
use Rattle.std.proofs.lemmas.Bool.{both_ways}
use Rattle.hg_phases.specs.Order.{phase_at}
use Rattle.hg_wireproto.specs.Hidden.{is_public}
use Rattle.hg_wireproto.proofs.Coming.{no_row, one_row}
use Rattle.hg_wireproto.proofs.since.before.Goals as goal

pub returns-in-Some-clause-found : goal.returns-in-Some-clause-found
returns-in-Some-clause-found g c r low not_public same =
    ap (λ (k : ℕ). Some k) (one_row c.args.log.now.rows c.in-Some.rev r c.args.node.now.0 c.len.ensures.lawful
    c.in-Some.ensures.found (omega (arith, low, c.requires.first)) same)

-- it is public
pub returns-in_default-clause-found : goal.returns-in_default-clause-found
returns-in_default-clause-found g c r low not_public same =
    let is = one_row c.args.log.now.rows c.in-Some.rev r c.args.node.now.0 c.len.ensures.lawful
    c.in-Some.ensures.found (omega (arith, low, c.requires.first)) same in
    absurd (both_ways _ not_public
    (subst (λ k. is_public (phase_at c.args.phases.now.current.phases k) ≡ true) is
    (sym c.is_public.ensures ∙ c.if-not-is_public.false)))

pub returns-in_default-2-clause-found : goal.returns-in_default-2-clause-found
returns-in_default-2-clause-found g c r low not_public same =
    let is = one_row c.args.log.now.rows c.in-Some.rev r c.args.node.now.0 c.len.ensures.lawful
    c.in-Some.ensures.found (omega (arith, low, c.requires.first)) same in
    absurd (omega (arith, is, low, c.if-rev-first.false))

pub returns-in_default-3-clause-found : goal.returns-in_default-3-clause-found
returns-in_default-3-clause-found g c r low not_public same =
    absurd (no_row c.args.log.now.rows r c.args.node.now.0 c.in_default.ensures.none
    (omega (arith, low, c.requires.first)) same)
