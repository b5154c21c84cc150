use Rattle.hg_parts.specs.declared.refusal.Refusal.TheVariants.{NoMemory}
use Rattle.hg_parts.specs.declared.source.Source.TheVariants.{Push}
use Rattle.hg_push.specs.Run.{run_push}
use Rattle.hg_push.proofs.Refused.{never_told}
use Rattle.hg_push.proofs.laws.memory_refuses_no_part.Goals as goal

-- a refusal of a run is one that a part of its type can give, and no type can give out of memory
pub returns : goal.returns
returns g c = record {
  runs = λ repo ran is. (c.refusals_tell_parts_of_a_run.ensures Push repo ran NoMemory is).3;
  outcomes = never_told run_push NoMemory
      (λ repo ran is. (c.refusals_tell_parts_of_a_run.ensures Push repo ran NoMemory is).3);
}
