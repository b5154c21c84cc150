use Rattle.hg_stream.proofs.Telling.{reading_phase}
use Rattle.hg_stream.proofs.unbundler.Unbundler.new.Goals as goal

pub invariant_of-result : goal.invariant_of-result
invariant_of-result g c =
    record {
      allowed = c.requires;
      part_goes_on = reading_phase _ c.new-3.ensures.part;
      interrupting_goes_on = reading_phase _ c.new-3.ensures.interrupting;
    }
