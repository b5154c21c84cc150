use Rattle.std.proofs.Common.{◌≡◌, ◌≢◌, length, drop, ◌≤◌, Ok, Err, sym, ap, ◌∙◌}
use Rattle.hg_delta.specs.declared.fault.DeltaFault.TheVariants as fault
use Rattle.hg_delta.specs.Delta.{Applies}
use Rattle.hg_delta.specs.Faults.{BreaksAt, GivesTooMuch}
use Rattle.hg_delta.specs.Faults.IsOutcome.{gives}
use Rattle.hg_delta.specs.Outcome.{outcome_of}
use Rattle.hg_log.specs.declared.add.AddFault.TheVariants.{NoMemory}
use Rattle.hg_log.specs.Rows.{AreLawful}
use Rattle.hg_log.specs.Add.{told_as}
use Rattle.hg_log.specs.Add.IsAnswer.{unknown_base}
use Rattle.hg_log.specs.Answer.{told_text, text_of}
use Rattle.hg_log.proofs.Outcomes.{told, told_value}
use Rattle.hg_log.proofs.Answering.{text_no_base, text_on_base}
use Rattle.hg_log.proofs.changelog.Changelog.text_of.Goals as goal

pub returns-in_default-clause-fault : goal.returns-in_default-clause-fault
returns-in_default-clause-fault g c = λ _. unknown_base c.requires c.in_default.ensures.unknown

pub returns-in-Ok-clause-text : goal.returns-in-Ok-clause-text
returns-in-Ok-clause-text g c =
    let fits : length c.in-Ok.text.items ≤ c.args.self.now.limits.text =
    rw (← c.self.view_is) c.in-Ok.ensures.fits in
    let applies : Applies c.in-Some.base.now c.args.entry.now.delta c.in-Ok.text.items =
    rw (← c.as_slice-delta.ensures) c.in-Ok.ensures.text in
    rw c.from_vec.ensures (record {
      parents = c.requires;
      base = c.in-Some.base.now;
      base_is = c.in-Some.ensures.known;
      outcome_is = gives c.in-Ok.text.items applies fits;
    })

pub returns-in_default-clause-fault_value : goal.returns-in_default-clause-fault_value
returns-in_default-clause-fault_value g c =
    λ _. text_no_base c.args.self.now c.args.entry.now c.in_default.ensures.unknown

pub returns-in-Ok-clause-value : goal.returns-in-Ok-clause-value
returns-in-Ok-clause-value g c =
    let base = c.in-Some.base.now in
    let lawful : AreLawful c.args.self.now.rows = rw (← c.self.view_is) c.self.invariant.lawful in
    let read : Ok c.in-Ok.text.items ≡ outcome_of base c.args.entry.now.delta c.args.self.now.limits.text =
    rw (← c.as_slice-delta.ensures, ← c.self.view_is) (c.in-Ok.ensures.outcome (λ refused. cc)) in
    rw c.from_vec.ensures (ap told_text read
    ∙ text_on_base c.args.self.now c.args.entry.now base lawful c.in-Some.ensures.known)

pub returns-in-Some-whole_text-clause-text : goal.returns-in-Some-whole_text-clause-text
returns-in-Some-whole_text-clause-text g c = record {
  parents = c.requires;
  base = c.in-Some.base.now;
  base_is = c.in-Some.ensures.known;
  outcome_is = gives _ (rw (← c.as_slice-delta.ensures) c.in-Some-whole_text.ensures.text)
      (rw (← c.as_slice-delta.ensures, ← c.self.view_is) c.in-Some-whole_text.ensures.fits);
}

pub returns-in-Some-whole_text-clause-value : goal.returns-in-Some-whole_text-clause-value
returns-in-Some-whole_text-clause-value g c =
    let base = c.in-Some.base.now in
    let delta = c.args.entry.now.delta in
    let lawful : AreLawful c.args.self.now.rows = rw (← c.self.view_is) c.self.invariant.lawful in
    let read : Ok (drop c.in-Some-whole_text.head delta) ≡ outcome_of base delta c.args.self.now.limits.text =
    rw (← c.as_slice-delta.ensures, ← c.self.view_is) (sym c.in-Some-whole_text.ensures.outcome) in
    ap told_text read ∙ text_on_base c.args.self.now c.args.entry.now base lawful c.in-Some.ensures.known

pub returns-in-Err : goal.returns-in-Err
returns-in-Err g c =
    let e = c.in-Err.ensures in
    let f = c.in-Err.fault in
    let base = c.in-Some.base.now in
    let delta = c.args.entry.now.delta in
    let short : f ≡ fault.Short
    → BreaksAt fault.Short base delta = λ is. rw (← c.as_slice-delta.ensures) (e.short (cc)) in
    let backwards : f ≡ fault.Backwards
    → BreaksAt fault.Backwards base delta = λ is. rw (← c.as_slice-delta.ensures) (e.backwards (cc)) in
    let past : f ≡ fault.PastEnd
    → BreaksAt fault.PastEnd base delta = λ is. rw (← c.as_slice-delta.ensures) (e.past_end (cc)) in
    let long : f ≡ fault.TooLong
    → GivesTooMuch base delta c.args.self.now.limits.text = λ is.
    rw (← c.as_slice-delta.ensures, ← c.self.view_is) (e.too_long (cc)) in
    let lawful : AreLawful c.args.self.now.rows = rw (← c.self.view_is) c.self.invariant.lawful in
    let read : f ≢ fault.NoMemory → Err f ≡ outcome_of base delta c.args.self.now.limits.text = λ other.
    rw (← c.as_slice-delta.ensures, ← c.self.view_is) (e.outcome (λ refused. other (cc))) in
    let value : told_as f ≢ NoMemory → Err (told_as f) ≡ text_of c.args.self.now c.args.entry.now = λ other.
    told_value f (outcome_of base delta c.args.self.now.limits.text) read other
    ∙ text_on_base c.args.self.now c.args.entry.now base lawful c.in-Some.ensures.known in
    record {
      text = tt;
      fault = rw c.from.ensures
          (told c.args.self.now c.args.entry.now base f c.requires c.in-Some.ensures.known short backwards
          past long);
      value = tt;
      fault_value = rw c.from.ensures value;
    }
