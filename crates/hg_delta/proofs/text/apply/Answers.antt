use Rattle.std.proofs.Common.{◌<◌, ◌≤◌, arith, length, ap, sym, Ok, Err}
use Rattle.std.proofs.lemmas.Result.{err_from_is_err_and}
use Rattle.hg_delta.specs.declared.fault.DeltaFault.TheVariants.{TooLong}
use Rattle.hg_delta.specs.Faults.{exceeds, gives}
use Rattle.hg_delta.proofs.Readings.{applies_once}
use Rattle.hg_delta.proofs.Outcomes.{outcome_is, fault_is}
use Rattle.hg_delta.proofs.text.apply.Goals as goal

pub returns-clause-fits : goal.returns-clause-fits
returns-clause-fits g c =
    let measured = c.in_ok-length.ensures.length in
    let same = applies_once c.args.base.now c.args.delta.now c.write_text.new.text.items measured.0
    c.in_ok-write_text.ensures.ok measured.1 in
    omega (arith, ap length same, measured.2)

pub returns-in_err-length-clause-outcome : goal.returns-in_err-length-clause-outcome
returns-in_err-length-clause-outcome g c =
    let p = err_from_is_err_and c.from_residual.result c.from_residual.ensures.1 in
    fault_is (λ text. text.items) c.from_residual.result c.args.base.now c.args.delta.now c.args.max
    c.in_err-length.field-0.0 p.0 p.1 p.2 (λ i. omega (arith, c.type_inv.delta i))
    (λ _. c.in_err-length.ensures.fault)

pub returns-then-length-max-clause-outcome : goal.returns-then-length-max-clause-outcome
returns-then-length-max-clause-outcome g c =
    let measured = c.in_ok-length.ensures.length in
    let long : c.args.max < length measured.0 = omega (arith, c.if-length-max.true, measured.2) in
    λ _. sym (outcome_is c.args.base.now c.args.delta.now c.args.max (Err TooLong)
    (λ i. omega (arith, c.type_inv.delta i))
    (exceeds (record { text = measured.0; applies = measured.1; long = long })))

pub returns-in_err-write_text-clause-outcome : goal.returns-in_err-write_text-clause-outcome
returns-in_err-write_text-clause-outcome g c =
    let p = err_from_is_err_and c.from_residual-in_err-write_text.result
    c.from_residual-in_err-write_text.ensures.1 in
    fault_is (λ text. text.items) c.from_residual-in_err-write_text.result c.args.base.now c.args.delta.now
    c.args.max c.in_err-write_text.field-0.0 p.0 p.1 p.2
    (λ i. omega (arith, c.type_inv.delta i)) c.in_err-write_text.ensures.fault

pub returns-clause-outcome : goal.returns-clause-outcome
returns-clause-outcome g c =
    let measured = c.in_ok-length.ensures.length in
    let same = applies_once c.args.base.now c.args.delta.now c.write_text.new.text.items measured.0
    c.in_ok-write_text.ensures.ok measured.1 in
    let few : length c.write_text.new.text.items ≤ c.args.max = omega (
      arith,
      ap length same,
      measured.2,
      c.if-length-max.false,
    ) in
    λ _. sym (outcome_is c.args.base.now c.args.delta.now c.args.max (Ok c.write_text.new.text.items)
    (λ i. omega (arith, c.type_inv.delta i))
    (gives c.write_text.new.text.items c.in_ok-write_text.ensures.ok few))
