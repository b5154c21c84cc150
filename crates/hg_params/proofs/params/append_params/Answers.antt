use Rattle.std.proofs.Common.{◌++◌, sym, ap, ◌∙◌, map, take, drop, arith}
use Rattle.std.proofs.lemmas.List.{append-nil}
use Rattle.hg_params.specs.Header.{param}
use Rattle.hg_params.specs.code.Reading.{params_in}
use Rattle.hg_params.proofs.Cutting.{pair_is, nothing_in, room_for, cut_one}
use Rattle.hg_params.proofs.params.append_params.Goals as goal

pub split_at-requires : goal.split_at-requires
split_at-requires g c =
    let e = pair_is c.loop-key.sizes.now _ c.in-Ok.ensures in
    let room = room_for c.in-Ok.key c.in-Ok.value c.loop-key.sizes.now c.in-Ok.more.now c.loop-key.texts.now e
    c.loop-key.invariant.room in
    omega arith

pub split_at-requires-in-Ok : goal.split_at-requires-in-Ok
split_at-requires-in-Ok g c =
    let e = pair_is c.loop-key.sizes.now _ c.in-Ok.ensures in
    let room = room_for c.in-Ok.key c.in-Ok.value c.loop-key.sizes.now c.in-Ok.more.now c.loop-key.texts.now e
    c.loop-key.invariant.room in
    omega (arith, c.split_at.ensures.back_len)

pub loop-key-smaller : goal.loop-key-smaller
loop-key-smaller g c =
    let e = pair_is c.loop-key.sizes.now _ c.in-Ok.ensures in
    rw e (omega arith)

pub loop-key-preserved : goal.loop-key-preserved
loop-key-preserved g c =
    let e = pair_is c.loop-key.sizes.now _ c.in-Ok.ensures in
    let room = room_for c.in-Ok.key c.in-Ok.value c.loop-key.sizes.now c.in-Ok.more.now c.loop-key.texts.now e
    c.loop-key.invariant.room in
    record {
      room = omega (arith, c.split_at.ensures.back_len, c.split_at-in-Ok.ensures.back_len);
      added = cut_one c.args.mandatory c.loop-key.params c.push.new.self (c.args.params.now
          ++ map (param c.args.mandatory) (params_in c.args.block.sizes.now c.args.block.texts.now))
          c.in-Ok.key c.in-Ok.value _ _ c.loop-key.sizes.now c.in-Ok.more.now c.loop-key.texts.now
          c.split_at-in-Ok.result.1.now
          e (c.in_ok-key.ensures ∙ c.split_at.ensures.front)
          (c.in_ok-value.ensures ∙ c.split_at-in-Ok.ensures.front
          ∙ ap (λ xs. take c.in-Ok.value xs) c.split_at.ensures.back)
          (c.split_at-in-Ok.ensures.back ∙ ap (λ xs. drop c.in-Ok.value xs) c.split_at.ensures.back)
          c.in_ok-push.ensures.ok c.loop-key.invariant.added;
    }

pub returns : goal.returns
returns g c =
    sym (append-nil c.loop-key.params)
    ∙ ap (λ ps. c.loop-key.params ++ map (param c.args.mandatory) ps)
    (sym (nothing_in c.loop-key.sizes.now c.loop-key.texts.now _ c.in_default.ensures))
    ∙ c.loop-key.invariant.added
