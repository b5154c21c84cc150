use Rattle.std.proofs.Common.{get_or, ◌∷◌, [], ◌+◌, take, refl, ap, subst, ◌∙◌, arith, inl, inr}
use Rattle.std.proofs.lemmas.Result.{err_from_is_err_and}
use Rattle.std.proofs.lemmas.List.{take_more, append-nil}
use Rattle.hg_chunks.specs.declared.fault.Step.TheVariants.{More}
use Rattle.hg_chunks.specs.PayloadIn.{StopsWithin, phase_of_stage, phase_after}
use Rattle.hg_chunks.proofs.Steps.{Stops-then, Fails-then, take_range, still_broken}
use Rattle.hg_chunks.proofs.Phases.{starts}
use Rattle.hg_chunks.proofs.Whole.{HasRead-then}
use Rattle.hg_chunks.proofs.payload.PayloadIn.feed.Goals as goal

pub returns-in-Failed-clause-err : goal.returns-in-Failed-clause-err
returns-in-Failed-clause-err g c = (
  0,
  omega arith,
  λ whole rest h. still_broken c.args.self.now c.in-Failed.fault whole rest c.in-Failed.is
      h,
)

pub loop-taken-init : goal.loop-taken-init
loop-taken-init g c = record {
  within = omega arith;
  limit = refl;
  reading = elim c.in-Size.is [ inl e ↦ ap phase_of_stage e | inr e ↦ ap phase_of_stage e.1 ];
  took = λ whole rest h. elim c.in-Size.is [
    | inl e ↦ starts c.args.self.now whole rest (ap phase_of_stage e) h
    | inr e ↦ starts c.args.self.now whole rest (ap phase_of_stage e.1) h
  ];
}

pub loop-taken-preserved : goal.loop-taken-preserved
loop-taken-preserved g c = record {
  within = omega (arith, c.min-count.ensures, c.loop-taken-test.true);
  limit = c.take_data.ensures.limit ∙ c.loop-taken.invariant.limit;
  reading = c.in_ok-take_data-in-Chunk.ensures.phase;
  took = λ whole rest h. rw (take_range c.args.piece.now c.loop-taken.taken c.min-count.result)
      (Stops-then More _ _ whole rest (take c.loop-taken.taken c.args.piece.now) _
      (c.loop-taken.invariant.took whole rest h) c.in_ok-take_data-in-Chunk.ensures.ok);
}

pub returns-in_err-take_data-in-Chunk-clause-err :
    goal.returns-in_err-take_data-in-Chunk-clause-err
returns-in_err-take_data-in-Chunk-clause-err g c =
    let p = err_from_is_err_and c.from_residual-in_err-take_data-in-Chunk.result
    c.from_residual-in_err-take_data-in-Chunk.ensures.1 in
    rw (p.1, p.2) (
      c.loop-taken.taken,
      c.loop-taken.invariant.within,
      λ whole rest h. rw (← append-nil (take c.loop-taken.taken c.args.piece.now))
          (Fails-then _ _ _ whole rest (take c.loop-taken.taken c.args.piece.now) _
          (c.loop-taken.invariant.took whole rest h) c.in_err-take_data-in-Chunk.ensures.err),
    )

pub returns-in_err-step-in-Size-stage-clause-err :
    goal.returns-in_err-step-in-Size-stage-clause-err
returns-in_err-step-in-Size-stage-clause-err g c =
    let p = err_from_is_err_and c.from_residual.result c.from_residual.ensures.1 in
    let more = take_more c.args.piece.now c.loop-taken.taken 0 c.loop-taken-test.true in
    rw (p.1, p.2) (
      c.loop-taken.taken + 1,
      omega (arith, c.loop-taken-test.true),
      λ whole rest h. rw more (Fails-then _ _ _ whole rest (take c.loop-taken.taken c.args.piece.now) _
          (c.loop-taken.invariant.took whole rest h) c.in_err-step-in-Size-stage.ensures.err),
    )

pub loop-taken-preserved-in-More : goal.loop-taken-preserved-in-More
loop-taken-preserved-in-More g c = record {
  within = omega (arith, c.loop-taken-test.true);
  limit = c.take_size_byte.ensures.limit ∙ c.loop-taken.invariant.limit;
  reading = c.in_ok-step-in-Size-stage.ensures.phase ∙ ap phase_after c.in-More.is;
  took = λ whole rest h.
      let more = take_more c.args.piece.now c.loop-taken.taken 0 c.loop-taken-test.true in
      rw more (Stops-then More _ _ whole rest (take c.loop-taken.taken c.args.piece.now) _
      (c.loop-taken.invariant.took whole rest h)
      (λ w r k. subst (λ step. StopsWithin step c.take_size_byte.new.self w r
      (get_or c.args.piece.now c.loop-taken.taken 0 ∷ [])) c.in-More.is
      (c.in_ok-step-in-Size-stage.ensures.ok w r k)));
}

pub returns-in_default-clause-ok : goal.returns-in_default-clause-ok
returns-in_default-clause-ok g c = λ whole rest h.
    let more = take_more c.args.piece.now c.loop-taken.taken 0 c.loop-taken-test.true in
    rw more (Stops-then c.in_ok-step-in-Size-stage.step _ _ whole rest
    (take c.loop-taken.taken c.args.piece.now) _
    (c.loop-taken.invariant.took whole rest h) c.in_ok-step-in-Size-stage.ensures.ok)

pub returns-in_default-clause-read : goal.returns-in_default-clause-read
returns-in_default-clause-read g c = λ bytes read.
    HasRead-then c.in_ok-step-in-Size-stage.step c.args.self.now _ bytes
    (take (c.loop-taken.taken + 1) c.args.piece.now) read (returns-in_default-clause-ok g c)

pub returns-clause-read : goal.returns-clause-read
returns-clause-read g c = λ bytes read.
    HasRead-then More c.args.self.now _ bytes (take c.loop-taken.taken c.args.piece.now) read
    c.loop-taken.invariant.took
