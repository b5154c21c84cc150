-- What the outcome of a delta makes of an entry.
use Rattle.std.proofs.Common.{◌≡◌, ◌≢◌, ℕ, List, Result, Err, refl, ap}
use Rattle.hg_types.specs.declared.entry.Entry.{Entry}
use Rattle.hg_delta.specs.declared.fault.DeltaFault.{DeltaFault}
use Rattle.hg_delta.specs.declared.fault.DeltaFault.TheVariants as fault
use Rattle.hg_delta.specs.Faults.{BreaksAt, GivesTooMuch}
use Rattle.hg_delta.specs.Faults.IsOutcome.{breaks, exceeds}
use Rattle.hg_log.specs.declared.add.AddFault.TheVariants.{NoMemory}
use Rattle.hg_log.specs.Changeset.{Log}
use Rattle.hg_log.specs.Add.{HasParentsIn, IsBase, IsAnswer, told_as}
use Rattle.hg_log.specs.Add.IsAnswer.{bad_delta}
use Rattle.hg_log.specs.Answer.{told_text}

pub told : {A : Type 0} (log : Log) (entry : Entry A) (base : List ℕ) (f : DeltaFault)
    → HasParentsIn log.rows entry → IsBase log.rows entry.base.0 base
    → (f ≡ fault.Short → BreaksAt fault.Short base entry.delta)
    → (f ≡ fault.Backwards → BreaksAt fault.Backwards base entry.delta)
    → (f ≡ fault.PastEnd → BreaksAt fault.PastEnd base entry.delta)
    → (f ≡ fault.TooLong → GivesTooMuch base entry.delta log.limits.text)
    → told_as f ≢ NoMemory → IsAnswer log entry (Err (told_as f)) log
told {A} log entry base fault.Short parents base_is short backwards past long ne =
    bad_delta fault.Short (record {
      parents = parents;
      base = base;
      base_is = base_is;
      outcome_is = breaks fault.Short (short refl);
    })
told {A} log entry base fault.Backwards parents base_is short backwards past long ne =
    bad_delta fault.Backwards
    (record {
      parents = parents;
      base = base;
      base_is = base_is;
      outcome_is = breaks fault.Backwards (backwards refl);
    })
told {A} log entry base fault.PastEnd parents base_is short backwards past long ne =
    bad_delta fault.PastEnd (record {
      parents = parents;
      base = base;
      base_is = base_is;
      outcome_is = breaks fault.PastEnd (past refl);
    })
told {A} log entry base fault.TooLong parents base_is short backwards past long ne =
    bad_delta fault.TooLong (record {
      parents = parents;
      base = base;
      base_is = base_is;
      outcome_is = exceeds (long refl);
    })
told {A} log entry base fault.NoMemory parents base_is short backwards past long ne = absurd (ne refl)

-- the same as a value
pub told_value : (f : DeltaFault) (read : Result (List ℕ) DeltaFault) → (f ≢ fault.NoMemory → Err f ≡ read)
    → told_as f ≢ NoMemory → Err (told_as f) ≡ told_text read
told_value fault.Short read is ne = ap told_text (is (λ other. cc))
told_value fault.Backwards read is ne = ap told_text (is (λ other. cc))
told_value fault.PastEnd read is ne = ap told_text (is (λ other. cc))
told_value fault.TooLong read is ne = ap told_text (is (λ other. cc))
told_value fault.NoMemory read is ne = absurd (ne refl)
