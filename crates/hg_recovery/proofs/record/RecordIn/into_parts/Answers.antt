use Rattle.std.proofs.Common.{◌∙◌, List, ap, length, refl, subst, sym}
use Rattle.hg_types.specs.declared.part.Part.{Part}
use Rattle.hg_stream.specs.Frames.{IsBundle}
use Rattle.hg_stream.specs.Unbundler.{limits_of}
use Rattle.hg_recovery.proofs.Taking.{bundle_taken, fault_taken, filled, less_taken, more_taken}
use Rattle.hg_recovery.proofs.record.RecordIn.into_parts.Goals as goal

pub returns-then-self-clause-err : goal.returns-then-self-clause-err
returns-then-self-clause-err g c = λ first bytes taken. (
  refl,
  more_taken first.bundle c.args.self.bundle taken.1 c.args.self.is_past bytes taken.0
      (c.streams_have_one_verdict.ensures _) c.if-self.true,
)

pub returns-in-Ended-clause-ok : goal.returns-in-Ended-clause-ok
returns-in-Ended-clause-ok g c = λ first bytes taken.
    subst (λ (parts : List (Part g.row.A.Denot)). IsBundle (limits_of first.bundle) bytes parts)
    (sym (filled _ _ _ (c.hash_several_of_each.ensures ∙ c.deref_mut.ensures.value)
    (sym c.deref_mut.ensures.len ∙ ap length c.deref_mut.ensures.value)
    ∙ c.in_ok-parts-in-Ended.ensures.parts))
    (bundle_taken first.bundle c.args.self.bundle taken.1 c.args.self.is_past bytes taken.0 c.if-self.false
    (sym c.state.ensures ∙ c.in-Ended.is))

pub returns-in-Reading-clause-err : goal.returns-in-Reading-clause-err
returns-in-Reading-clause-err g c = λ first bytes taken. (
  refl,
  less_taken first.bundle c.args.self.bundle taken.1 c.args.self.is_past bytes taken.0
      (c.streams_have_one_verdict.ensures _) (sym c.state.ensures ∙ c.in-Reading.is),
)

pub returns-clause-err : goal.returns-clause-err
returns-clause-err g c = λ first bytes taken.
    fault_taken first.bundle c.args.self.bundle taken.1 c.args.self.is_past bytes taken.0
    (c.streams_have_one_verdict.ensures _) c.in-Failed.fault (sym c.state.ensures ∙ c.in-Failed.is) c.args.place
    c.stream_fault.result c.stream_fault.ensures.memory c.stream_fault.ensures.other
