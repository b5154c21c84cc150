use Rattle.std.proofs.Common.{◌≡◌, ◌+◌, ◌∷◌, [], ◌++◌, length, take, arith, refl, sym, ◌∙◌, ap, subst, ◌⊎◌}
use Rattle.std.proofs.lemmas.List.{length-append, take_at}
use Rattle.hg_stream.specs.declared.state.State.TheVariants.{Ended}
use Rattle.hg_stream.specs.Frames.{IsWhole}
use Rattle.hg_stream.specs.Places.{IsReading}
use Rattle.hg_stream.specs.Faults.{by_length}
use Rattle.hg_stream.specs.Unbundler.{state_of}
use Rattle.hg_stream.proofs.Telling.{reading_of, reading_or_whole_of, reading_not_ended}
use Rattle.hg_stream.proofs.Feeding.{refused_or_met}
use Rattle.hg_stream.proofs.unbundler.Unbundler.read_past.Goals as goal

pub returns-in-Err-clause-past : goal.returns-in-Err-clause-past
returns-in-Err-clause-past g c =
    let failed = c.in-Err.ensures.err in
    let past = refused_or_met c.in-Err.fault c.args.self.now failed.0 c.args.byte failed.1 failed.2 in (
      past.0,
      past.1,
      λ bytes parts at going full. (
        c.in-Err.ensures.kept.0,
        ap (λ n. n + length parts) c.in-Err.ensures.kept.1 ∙ at.left
            ∙ ap (λ l. l.parts) (sym c.advance.ensures.limits),
        past.2 bytes parts at going full,
      ),
    )

pub returns-clause-past : goal.returns-clause-past
returns-clause-past g c = (
  1,
  omega arith,
  λ bytes parts at going full.
      let going_on : state_of c.args.self.now ≡ Ended → ⊥ = λ e. reading_not_ended (sym going ∙ e) in
      let some = c.in_default.ensures.some going_on in
      let one : c.in_default.field-0 ≡ 1 = omega (arith, some, c.in_default.ensures.count) in
      let moved = c.in_default.ensures.ok bytes parts at in
      let both = rw one at (reading_or_whole_of c.advance.new.self (bytes
      ++ take c.in_default.field-0 (c.args.byte ∷ [])) (parts ++ moved.0) moved.1.at) in
      let read : IsReading c.args.self.now.limits (bytes ++ c.args.byte ∷ []) (parts ++ moved.0)
      ⊎ IsWhole c.args.self.now.limits (bytes ++ c.args.byte ∷ []) (parts ++ moved.0) =
      subst (λ l. IsReading l (bytes ++ c.args.byte ∷ []) (parts ++ moved.0)
      ⊎ IsWhole l (bytes ++ c.args.byte ∷ []) (parts ++ moved.0)) c.advance.ensures.limits both in (
        c.truncate.ensures.items ∙ ap (take c.len-finished.result) moved.1.ready
            ∙ take_at c.args.self.now.ready.items moved.0 c.len-finished.result
            (sym c.args.self.now.ready.ok.0 ∙ sym c.len-finished.ensures),
        at.left ∙ ap (λ l. l.parts) (sym c.advance.ensures.limits),
        by_length bytes c.args.byte (parts ++ moved.0) (reading_of c.args.self.now bytes parts at going) read
            refl (omega (arith, length-append bytes (c.args.byte ∷ []), full)) refl,
      ),
)
