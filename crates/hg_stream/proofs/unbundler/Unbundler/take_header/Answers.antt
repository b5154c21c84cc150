use Rattle.std.proofs.Common.{rules, [], List, ℕ, take, refl, sym, ◌∙◌, ap, ◌++◌, subst}
use Rattle.std.proofs.lemmas.Result.{err_from_is_err_and}
use Rattle.hg_stream.specs.declared.block.BlockStep.TheVariants.{Whole, Nothing, More}
use Rattle.hg_stream.specs.Block.{BlockStops}
use Rattle.hg_stream.specs.Places.{header}
use Rattle.hg_stream.specs.Unbundler.{IsAt}
use Rattle.hg_stream.proofs.Steps.{block_err, finishes_none, further}
use Rattle.hg_stream.proofs.Levels.{header_at, header_at_err, after_last}
use Rattle.hg_stream.proofs.Moves.{took, stumbled}
use Rattle.hg_stream.proofs.unbundler.Unbundler.take_header.Goals as goal

pub returns-in-Err : goal.returns-in-Err
returns-in-Err g c = stumbled _ _ _ _ (search rules) (search rules) (search rules)
    (let failed = c.in-Err.ensures.err in (
      failed.0,
      failed.1,
      λ bytes parts h.
          let place = rw c.requires.stage at h.place in
          rw c.block_fault.ensures
          (block_err c.in-Err.fault _ bytes place.front place.rest _ parts _ c.args.self.now.block
          (header (header_at c.args.level _ _ _ place.front parts place.before)) place.waits place.spelled
          failed.2),
    ))

pub returns-in-More : goal.returns-in-More
returns-in-More g c = took _ _ _ _ (search rules) (search rules) (search rules) (search rules)
    (λ bytes parts h.
    let place = rw c.requires.stage at h.place in
    let more : BlockStops More c.feed.new.self (place.rest ++ take c.in-Ok.taken.0 c.args.piece.now) =
    subst (λ step. BlockStops step c.feed.new.self (place.rest ++ take c.in-Ok.taken.0 c.args.piece.now))
    c.in-More.is (c.in-Ok.ensures.ok place.rest place.waits.holds) in (
      [],
      finishes_none _ _ _ parts refl (record {
        left = h.left;
        place = rw c.requires.stage (record {
          front = place.front;
          rest = place.rest ++ take c.in-Ok.taken.0 c.args.piece.now;
          before = place.before;
          waits = record { holds = more; most_is = c.feed.ensures.most ∙ place.waits.most_is };
          spelled = further bytes place.front place.rest _ place.spelled;
        });
      }),
    ))

pub returns-in-Nothing : goal.returns-in-Nothing
returns-in-Nothing g c =
    took _ _ _ _ (search rules) (search rules) (search rules) (search rules) (λ bytes parts h.
    let place = rw c.requires.stage at h.place in
    let closed : BlockStops Nothing c.feed.new.self (place.rest ++ take c.in-Ok.taken.0 c.args.piece.now) =
    subst (λ step. BlockStops step c.feed.new.self (place.rest ++ take c.in-Ok.taken.0 c.args.piece.now))
    c.in-Nothing.is (c.in-Ok.ensures.ok place.rest place.waits.holds) in (
      [],
      finishes_none _ _ _ parts refl (record {
        left = h.left;
        place = rw (
          c.after_last-self.ensures,
          further bytes place.front place.rest _ place.spelled
              ∙ ap (λ (x : List ℕ). place.front ++ x) closed,
        ) (after_last c.args.level _ place.front parts place.before);
      }),
    ))

pub returns-in_err-open-in-Whole : goal.returns-in_err-open-in-Whole
returns-in_err-open-in-Whole g c =
    let p = err_from_is_err_and c.from_residual.result c.from_residual.ensures.1 in
    let failed = header_at_err c.args.level c.in_err-open-in-Whole.field-0.0 c.args.self.now.limits
    c.args.self.now.head c.args.self.now.payloads.part c.args.self.now.block
    c.feed.new.self c.args.piece.now c.in-Ok.taken.0 c.in-Ok.ensures.count
    c.in_err-open-in-Whole.ensures.err c.feed.ensures.most
    (λ rest holds. subst (λ step. BlockStops step c.feed.new.self (rest
    ++ take c.in-Ok.taken.0 c.args.piece.now)) c.in-Whole.is (c.in-Ok.ensures.ok rest holds)) in
    rw (p.1, p.2) (stumbled _ _ _ _ (search rules) (search rules) (search rules) (
      failed.0,
      failed.1,
      λ bytes parts h.
          let place = rw c.requires.stage at h.place in
          failed.2 bytes place.front place.rest parts place.before place.waits place.spelled,
    ))

pub returns-in_ok-open-in-Whole : goal.returns-in_ok-open-in-Whole
returns-in_ok-open-in-Whole g c =
    took _ _ _ _ (search rules) (search rules) (search rules) (search rules) (λ bytes parts h.
    let place = rw c.requires.stage at h.place in
    let whole : BlockStops Whole c.feed.new.self (place.rest ++ take c.in-Ok.taken.0 c.args.piece.now) =
    subst (λ step. BlockStops step c.feed.new.self (place.rest ++ take c.in-Ok.taken.0 c.args.piece.now))
    c.in-Whole.is (c.in-Ok.ensures.ok place.rest place.waits.holds) in
    let opened = c.in_ok-open-in-Whole.ensures.ok place.front parts place.before
    (rw (← (c.feed.ensures.most ∙ place.waits.most_is)) whole.0) h.left in (
      [],
      finishes_none _ _ _ parts c.open.ensures.kept.0
          (subst (λ x. IsAt c.open.new.self x parts)
          (sym (further bytes place.front place.rest _ place.spelled
          ∙ ap (λ (x : List ℕ). place.front ++ x) whole.1)) opened),
    ))
