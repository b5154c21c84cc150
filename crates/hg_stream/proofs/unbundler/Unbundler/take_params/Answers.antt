use Rattle.std.proofs.Common.{rules, ◌≡◌, [], List, ℕ, take, arith, refl, ◌∙◌, ◌++◌, subst}
use Rattle.std.proofs.lemmas.Result.{err_from_is_err_and}
use Rattle.hg_stream.specs.declared.block.BlockStep.TheVariants.{Whole, More}
use Rattle.hg_stream.specs.Block.{BlockStops}
use Rattle.hg_stream.specs.Frames.{magic, HasParts}
use Rattle.hg_stream.specs.Places.{params}
use Rattle.hg_stream.proofs.Steps.{block_err, params_err, finishes_none, further, behind_params, no_params}
use Rattle.hg_stream.proofs.Steps.{room_is}
use Rattle.hg_stream.proofs.Moves.{took, stumbled}
use Rattle.hg_stream.proofs.unbundler.Unbundler.take_params.Goals.{in-Nothing}
use Rattle.hg_stream.proofs.unbundler.Unbundler.take_params.Goals.{in-Whole+in_ok-read_params-in-Whole}
use Rattle.hg_stream.proofs.unbundler.Unbundler.take_params.Goals as goal

pub returns-in-Err : goal.returns-in-Err
returns-in-Err g c = stumbled _ _ _ _ (search rules) (search rules) (search rules)
    (let failed = c.in-Err.ensures.err in (
      failed.0,
      failed.1,
      λ bytes parts h.
          let place = rw c.requires.stage at h.place in
          rw c.block_fault.ensures
          (block_err c.in-Err.fault _ bytes magic place.rest _ parts _ c.args.self.now.block
          (params refl place.none refl) place.waits place.spelled failed.2),
    ))

pub returns-in_err-read_params-in-Whole : goal.returns-in_err-read_params-in-Whole
returns-in_err-read_params-in-Whole g c =
    let p = err_from_is_err_and c.from_residual.result c.from_residual.ensures.1 in
    let refused = rw c.as_slice.ensures.value at c.in_err-read_params-in-Whole.ensures.err in
    let failed = params_err c.in_err-read_params-in-Whole.field-0.0 c.args.self.now.limits
    c.args.self.now.block c.feed.new.self c.args.piece.now c.in-Ok.taken.0 c.in-Ok.ensures.count refused
    c.feed.ensures.most
    (λ rest holds. subst (λ step. BlockStops step c.feed.new.self (rest
    ++ take c.in-Ok.taken.0 c.args.piece.now)) c.in-Whole.is (c.in-Ok.ensures.ok rest holds)) in
    rw (p.1, p.2) (stumbled _ _ _ _ (search rules) (search rules) (search rules) (
      failed.0,
      failed.1,
      λ bytes parts h.
          let place = rw c.requires.stage at h.place in
          failed.2 bytes place.rest parts place.waits place.none place.spelled,
    ))

pub returns : goal.returns
returns g c = took _ _ _ _ (search rules) (search rules) (search rules) (search rules) (λ bytes parts h.
    let place = rw c.requires.stage at h.place in
    let has : (front : List ℕ) × HasParts c.args.self.now.limits front parts
    × (bytes ++ take c.in-Ok.taken.0 c.args.piece.now ≡ front ++ []) = elim c.match-step.branch [
      | in-Nothing w ↦
          let closed : place.rest ++ take c.in-Ok.taken.0 c.args.piece.now ≡ _ = subst
          (λ step. BlockStops step c.feed.new.self (place.rest ++ take c.in-Ok.taken.0 c.args.piece.now))
          w.in-Nothing.is (c.in-Ok.ensures.ok place.rest place.waits.holds) in
          behind_params _ [] bytes place.rest _ parts (omega arith)
          (omega arith) no_params place.none place.spelled closed
      | in-Whole+in_ok-read_params-in-Whole w ↦
          let whole : BlockStops Whole c.feed.new.self (place.rest ++ take c.in-Ok.taken.0 c.args.piece.now) =
          subst (λ step. BlockStops step c.feed.new.self (place.rest
          ++ take c.in-Ok.taken.0 c.args.piece.now)) w.in-Whole.is
          (c.in-Ok.ensures.ok place.rest place.waits.holds) in
          behind_params _ _ bytes place.rest _ parts
          (rw (← (c.feed.ensures.most ∙ place.waits.most_is)) whole.0.1) whole.0.2
          (rw (← w.as_slice.ensures.value) w.in_ok-read_params-in-Whole.ensures.ok) place.none
          place.spelled whole.1
    ] in (
      [],
      finishes_none _ _ _ parts refl (record {
        left = h.left;
        place = record {
          front = has.0;
          rest = [];
          before = has.1;
          waits = record {
            holds = c.restart.ensures.empty;
            most_is = c.restart.ensures.most
                ∙ c.header_room.ensures ∙ room_is c.args.self.now.parts_left c.args.self.now.limits parts
                h.left;
          };
          spelled = has.2;
        };
      }),
    ))

pub returns-in-More : goal.returns-in-More
returns-in-More g c = took _ _ _ _ (search rules) (search rules) (search rules) (search rules)
    (λ bytes parts h.
    let place = rw c.requires.stage at h.place in
    let more : BlockStops More c.feed.new.self (place.rest ++ take c.in-Ok.taken.0 c.args.piece.now) =
    subst (λ step. BlockStops step c.feed.new.self (place.rest ++ take c.in-Ok.taken.0 c.args.piece.now))
    c.in-More.is (c.in-Ok.ensures.ok place.rest place.waits.holds) in (
      [],
      finishes_none _ _ _ parts refl (record {
        left = h.left;
        place = rw c.requires.stage (record {
          rest = place.rest ++ take c.in-Ok.taken.0 c.args.piece.now;
          waits = record { holds = more; most_is = c.feed.ensures.most ∙ place.waits.most_is };
          none = place.none;
          spelled = further bytes magic place.rest _ place.spelled;
        });
      }),
    ))
