use Rattle.std.proofs.Common.{rules, [], List, ℕ, take, arith, refl, sym, ◌∙◌, ap, ◌++◌, subst}
use Rattle.std.proofs.lemmas.Result.{err_from_is_err_and}
use Rattle.std.proofs.lemmas.List.{append-nil}
use Rattle.hg_chunks.specs.Payload.{interruption, closing}
use Rattle.hg_chunks.specs.PayloadIn as chunks
use Rattle.hg_stream.specs.Payloads.{reader_at}
use Rattle.hg_types.specs.declared.part.Part.{Part}
use Rattle.hg_stream.specs.declared.fault.StreamFault.TheVariants.{NestedInterrupt}
use Rattle.hg_stream.specs.declared.payloads.Level.{Level}
use Rattle.hg_stream.specs.declared.unbundler.Unbundler.{Unbundler}
use Rattle.hg_stream.specs.Unbundler.{IsAt, IsInsideAt}
use Rattle.hg_stream.specs.code.Steps.{BreaksBundle}
use Rattle.hg_stream.proofs.Steps.{finishes_none}
use Rattle.hg_stream.proofs.Chunks.{CarriesOn, behind, chunk_err, chunk_reading}
use Rattle.hg_stream.proofs.Levels.{chunk_at, more_at, inside_still, nested}
use Rattle.hg_stream.proofs.Telling.{reading_phase}
use Rattle.hg_stream.proofs.Moves.{took, stumbled}
use Rattle.hg_stream.proofs.unbundler.Unbundler.take_payload.Goals as goal

pub returns-in-Err : goal.returns-in-Err
returns-in-Err g c = stumbled _ _ _ _ (search rules) (search rules) (search rules)
    (let failed = c.in-Err.ensures.reads.err in (
      failed.0,
      failed.1,
      λ bytes parts h.
          let place = rw c.requires.stage at h.place in
          rw c.chunk_fault.ensures
          (chunk_err c.args.self.now.limits parts
          (λ f w. IsInsideAt c.args.level c.args.self.now.limits c.args.self.now.head
          c.args.self.now.payloads.part f parts w)
          (more_at c.args.level c.args.self.now.limits c.args.self.now.head c.args.self.now.payloads.part parts)
          (chunk_at c.args.level c.args.self.now.limits c.args.self.now.head c.args.self.now.payloads.part
          parts)
          c.in-Err.fault (reader_at c.args.level c.feed.new.self) bytes place.front place.rest place.whole _
          place.inside (c.in-Err.ensures.reads.limit ∙ place.goes_on.limit) place.spelled
          (failed.2 place.whole place.rest place.goes_on.holds)),
    ))

-- what was taken, where it stopped
abbrev Inside : {A : Type 0} → Level → Unbundler A → List (Part A) → List ℕ → List ℕ → Type 0
Inside l u parts f w = IsInsideAt l u.limits u.head u.payloads.part f parts w

carries : {A : Type 0} (l : Level) (u : Unbundler A) (parts : List (Part A))
    → CarriesOn u.limits (Inside l u parts)
carries l u parts = more_at l u.limits u.head u.payloads.part parts

pub returns-in-More : goal.returns-in-More
returns-in-More g c = took _ _ _ _ (search rules) (search rules) (search rules) (search rules)
    (λ bytes parts h.
    let place = rw c.requires.stage at h.place in
    let stops = subst (λ step. chunks.StopsWithin step (reader_at c.args.level c.feed.new.self) place.whole
    place.rest (take c.in-Ok.taken.0 c.args.piece.now)) c.in-More.is
    (c.in-Ok.ensures.reads.ok place.whole place.rest place.goes_on.holds) in
    let limit = c.in-Ok.ensures.reads.limit ∙ place.goes_on.limit in
    let b = behind c.args.self.now.limits (Inside c.args.level c.args.self.now parts)
    (carries c.args.level c.args.self.now parts) (reader_at c.args.level c.feed.new.self) bytes place.front
    place.rest place.whole _ [] stops.2 stops.0 place.inside limit place.spelled
    (rw (← stops.4.0) stops.3) in (
      [],
      finishes_none _ _ _ parts refl (record {
        left = h.left;
        place = rw c.requires.stage (record {
          front = b.front;
          rest = stops.2;
          whole = b.whole;
          inside = inside_still c.args.level c.args.self.now.limits c.args.self.now.head
              c.args.self.now.payloads c.feed.new.self parts b.front b.whole c.feed.ensures.other b.place;
          goes_on = record {
            holds = b.holds;
            limit = limit;
            reading = c.in-Ok.ensures.reads.phase (reading_phase _ place.goes_on.reading)
                ∙ ap chunks.phase_after c.in-More.is;
          };
          spelled = b.spelled;
        });
      }),
    ))

pub returns-in_err-interrupt-in-Interrupt : goal.returns-in_err-interrupt-in-Interrupt
returns-in_err-interrupt-in-Interrupt g c =
    let p = err_from_is_err_and c.from_residual.result c.from_residual.ensures.1 in
    rw (p.1, p.2) (stumbled _ _ _ _ (search rules) (search rules) (search rules) ((
      c.in-Ok.taken.0,
      c.in-Ok.ensures.reads.count,
      λ bytes parts h.
          let place = rw c.requires.stage at h.place in
          let stops = subst (λ step. chunks.StopsWithin step (reader_at c.args.level c.feed.new.self) place.whole
          place.rest (take c.in-Ok.taken.0 c.args.piece.now)) c.in-Interrupt.is
          (c.in-Ok.ensures.reads.ok place.whole place.rest place.goes_on.holds) in
          let takes : chunks.TakesChunks (reader_at c.args.level c.feed.new.self) place.whole place.rest
          (take c.in-Ok.taken.0 c.args.piece.now) interruption [] stops.0 =
          rw (← stops.4.0, ← stops.4.1) stops.3 in
          let b = behind c.args.self.now.limits (Inside c.args.level c.args.self.now parts)
          (carries c.args.level c.args.self.now parts) (reader_at c.args.level c.feed.new.self) bytes
          place.front place.rest place.whole _ interruption [] stops.0 place.inside
          (c.in-Ok.ensures.reads.limit ∙ place.goes_on.limit) place.spelled takes in
          rw c.in_err-interrupt-in-Interrupt.ensures.err.0
          (subst (λ x. BreaksBundle NestedInterrupt c.args.self.now.limits x parts)
          (sym (b.spelled ∙ ap (λ (x : List ℕ). b.front ++ x) (append-nil interruption)))
          (nested c.args.level c.args.self.now.limits c.args.self.now.head c.args.self.now.payloads.part
          b.front parts b.whole c.in_err-interrupt-in-Interrupt.ensures.err.1 b.place)),
    )))

pub returns-in_ok-interrupt-in-Interrupt : goal.returns-in_ok-interrupt-in-Interrupt
returns-in_ok-interrupt-in-Interrupt g c =
    took _ _ _ _ (search rules) (search rules) (search rules) (search rules) (λ bytes parts h.
    let place = rw c.requires.stage at h.place in
    let stops = subst (λ step. chunks.StopsWithin step (reader_at c.args.level c.feed.new.self) place.whole
    place.rest (take c.in-Ok.taken.0 c.args.piece.now)) c.in-Interrupt.is
    (c.in-Ok.ensures.reads.ok place.whole place.rest place.goes_on.holds) in
    let limit = c.in-Ok.ensures.reads.limit ∙ place.goes_on.limit in
    let takes : chunks.TakesChunks (reader_at c.args.level c.feed.new.self) place.whole place.rest
    (take c.in-Ok.taken.0 c.args.piece.now) interruption [] stops.0 =
    rw (← stops.4.0, ← stops.4.1) stops.3 in
    let b = behind c.args.self.now.limits (Inside c.args.level c.args.self.now parts)
    (carries c.args.level c.args.self.now parts) (reader_at c.args.level c.feed.new.self) bytes place.front
    place.rest place.whole _ interruption [] stops.0 place.inside limit place.spelled takes in
    let inside = inside_still c.args.level c.args.self.now.limits c.args.self.now.head
    c.args.self.now.payloads c.feed.new.self parts b.front b.whole c.feed.ensures.other b.place in
    let interrupted = c.in_ok-interrupt-in-Interrupt.ensures.ok b.front parts b.whole inside (record {
      holds = b.holds;
      limit = limit;
      reading = c.in-Ok.ensures.reads.phase (reading_phase _ place.goes_on.reading)
          ∙ ap chunks.phase_after c.in-Interrupt.is;
    }) h.left in (
      [],
      finishes_none _ _ _ parts c.interrupt.ensures.kept.0
          (subst (λ x. IsAt c.interrupt.new.self x parts)
          (sym (b.spelled ∙ ap (λ (x : List ℕ). b.front ++ x) (append-nil interruption))) interrupted),
    ))

pub returns-in_err-close-in-Done : goal.returns-in_err-close-in-Done
returns-in_err-close-in-Done g c =
    let p = err_from_is_err_and c.from_residual-in_err-close-in-Done.result
    c.from_residual-in_err-close-in-Done.ensures.1 in
    rw (p.1, p.2) (stumbled _ _ _ _ (search rules) (search rules) (search rules) (
      0,
      omega arith,
      λ bytes parts h.
          let place = rw c.requires.stage at h.place in
          rw c.in_err-close-in-Done.ensures.err
          (chunk_reading c.args.self.now.limits bytes place.front place.rest place.whole parts
          (reader_at c.args.level c.args.self.now.payloads)
          (chunk_at c.args.level c.args.self.now.limits c.args.self.now.head c.args.self.now.payloads.part
          parts place.front place.whole place.inside) place.goes_on place.spelled),
    ))

pub returns-in_ok-close-in-Done : goal.returns-in_ok-close-in-Done
returns-in_ok-close-in-Done g c =
    took _ _ _ _ (search rules) (search rules) (search rules) (search rules) (λ bytes parts h.
    let place = rw c.requires.stage at h.place in
    let stops = subst (λ step. chunks.StopsWithin step (reader_at c.args.level c.feed.new.self) place.whole
    place.rest (take c.in-Ok.taken.0 c.args.piece.now)) c.in-Done.is
    (c.in-Ok.ensures.reads.ok place.whole place.rest place.goes_on.holds) in
    let takes : chunks.TakesChunks (reader_at c.args.level c.feed.new.self) place.whole place.rest
    (take c.in-Ok.taken.0 c.args.piece.now) [] closing stops.0 = (let first = rw stops.4.0 at stops.3 in
    rw stops.4.1 at first) in
    let b = behind c.args.self.now.limits (Inside c.args.level c.args.self.now parts)
    (carries c.args.level c.args.self.now parts) (reader_at c.args.level c.feed.new.self) bytes place.front
    place.rest place.whole _ [] closing stops.0 place.inside
    (c.in-Ok.ensures.reads.limit ∙ place.goes_on.limit) place.spelled takes in
    let still = inside_still c.args.level c.args.self.now.limits c.args.self.now.head
    c.args.self.now.payloads c.begin-ended.new.self parts b.front b.whole
    (c.begin-ended.ensures.other ∙ c.feed.ensures.other) b.place in
    let holds : chunks.HasTakenItems c.begin-ended.result b.whole closing = subst
    (λ p. chunks.HasTakenItems p b.whole closing) (sym c.begin-ended.ensures.before) b.holds in
    let inside = subst (λ w. IsInsideAt c.args.level c.args.self.now.limits c.args.self.now.head
    c.begin-ended.new.self.part b.front parts w)
    (sym (c.take_payload.ensures.data b.whole closing holds).0) still in
    let closed = c.in_ok-close-in-Done.ensures.ok b.front parts inside h.left in (
      closed.0,
      record {
        ready = closed.1.ready;
        at = subst (λ x. IsAt c.close.new.self x (parts ++ closed.0)) (sym b.spelled) closed.1.at;
      },
    ))
