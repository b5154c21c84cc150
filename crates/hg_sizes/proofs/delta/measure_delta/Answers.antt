use Rattle.std.proofs.Common.{◌≡◌, ◌<◌, ◌+◌, ◌-◌, ℕ, suc, [], Ok, Err, length, sym, ap, ◌∙◌, ◌≢◌, arith}
use Rattle.std.proofs.lemmas.Bool.{eqb-true, eqb-false}
use Rattle.std.proofs.lemmas.List.{nil_from_length}
use Rattle.std.proofs.lemmas.Result.{err_from_is_err_and}
use Rattle.hg_sizes.specs.Measures.{view}
use Rattle.hg_sizes.proofs.Measuring.{begins, counts_hunk, ends_delta, ends_turns, meets_fault}
use Rattle.hg_sizes.proofs.delta.measure_delta.Goals as goal

pub hunks-init : goal.hunks-init
hunks-init c = record {
  is = begins c.args.size c.args.delta.now;
  counted = omega arith;
  within = omega arith;
  few = omega arith;
}

pub returns-then-is_empty-clause-measure : goal.returns-then-is_empty-clause-measure
returns-then-is_empty-clause-measure c =
    let none : c.hunks.rest.now ≡ [] = nil_from_length c.hunks.rest.now
    (eqb-true _ _ (sym c.is_empty.ensures ∙ c.if-is_empty.true)) in
    ap Ok c.up_to_end.ensures
    ∙ sym (c.hunks.invariant.is ∙ ends_delta (length c.args.delta.now - c.hunks._turn) c.args.size c.hunks.before
    c.hunks.kept c.hunks.brought c.hunks.rest.now none)

pub returns-in_err-hunk-clause-measure : goal.returns-in_err-hunk-clause-measure
returns-in_err-hunk-clause-measure c =
    let p = err_from_is_err_and c.from_residual.result c.from_residual.ensures.1 in
    let turns : ℕ = length c.args.delta.now - (c.hunks._turn + 1) in
    let one : length c.args.delta.now - c.hunks._turn ≡ suc turns = omega (arith, c.hunks-test.true) in
    let ne : length c.hunks.rest.now ≢ 0 = eqb-false _ _ (sym c.is_empty.ensures ∙ c.if-is_empty.false) in
    let some : 0 < length c.hunks.rest.now = omega arith in
    p.1 ∙ (ap Err p.2 ∙ sym (c.hunks.invariant.is ∙ meets_fault turns (length c.args.delta.now - c.hunks._turn)
    c.args.size c.hunks.before c.hunks.kept c.hunks.brought c.hunks.rest.now c.in_err-hunk.field-0.0 one some
    (sym c.in_err-hunk.ensures.read)))

pub hunks-preserved : goal.hunks-preserved
hunks-preserved c =
    let turns : ℕ = length c.args.delta.now - (c.hunks._turn + 1) in
    let one : length c.args.delta.now - c.hunks._turn ≡ suc turns = omega (arith, c.hunks-test.true) in
    let ne : length c.hunks.rest.now ≢ 0 = eqb-false _ _ (sym c.is_empty.ensures ∙ c.if-is_empty.false) in
    let some : 0 < length c.hunks.rest.now = omega arith in
    let placed = c.in_ok-hunk.ensures.placed in
    record {
      is = c.hunks.invariant.is ∙ counts_hunk turns (length c.args.delta.now - c.hunks._turn) c.args.size
          c.hunks.before c.hunks.kept c.hunks.brought c.hunks.rest.now c.in_ok-hunk.after.now (view c.in_ok-hunk.hunk)
          one some (sym c.in_ok-hunk.ensures.read);
      counted = omega (arith, placed.0, placed.1, c.hunks.invariant.counted);
      within = placed.2;
      few = omega (arith, c.in_ok-hunk.ensures.shorter, c.hunks.invariant.few);
    }

pub returns-clause-measure : goal.returns-clause-measure
returns-clause-measure c =
    let none : length c.args.delta.now - c.hunks._turn ≡ 0 = omega (arith, c.hunks-test.false) in
    ap Ok c.up_to_end-2.ensures
    ∙ sym (c.hunks.invariant.is ∙ ends_turns (length c.args.delta.now - c.hunks._turn) c.args.size c.hunks.before
    c.hunks.kept c.hunks.brought c.hunks.rest.now none)
