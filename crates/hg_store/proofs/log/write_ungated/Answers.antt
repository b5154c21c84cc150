use Rattle.std.proofs.Common.{◌≡◌, ◌≤◌, ◌∷◌, ◌++◌, ◌∙◌, [], ℕ, List, length, drop, ap, arith}
use Rattle.std.proofs.Common.{append_assoc, length-append}
use Rattle.hg_store.specs.Records.{frames}
use Rattle.hg_store.specs.declared.head.Version.TheVariants.{Second}
use Rattle.hg_store.proofs.Staying.{kept_on, ungated_is}
use Rattle.hg_store.proofs.log.write_ungated.Goals as goal

-- each record from where it is
pub returns-in_default-clause-written : goal.returns-in_default-clause-written
returns-in_default-clause-written g c =
    let all : List ℕ = drop 1 (frames Second c.args.before.now c.args.batch.now) in
    c.in_ok-write_behind.ensures.written
    ∙ ap (λ (l : List ℕ). l ++ 0 ∷ []) c.in_ok-end.ensures.written
    ∙ append_assoc (g.D.Device.seen c.args.device.now) all (0 ∷ [])

pub returns-in_default-clause-front : goal.returns-in_default-clause-front
returns-in_default-clause-front g c = λ front le here.
    let first = c.write_batch.ensures.front front le here in
    let behind : length front ≤ c.in_ok-end.end = omega (
      arith,
      le,
      c.requires.end,
      c.in_ok-end.ensures.end,
      ap length c.in_ok-end.ensures.written,
      length-append (g.D.Device.seen c.args.device.now) (drop 1 (frames Second c.args.before.now c.args.batch.now)),
    ) in
    kept_on g.D.Device.moment g.D.Device.left_since g.D.Device.may_leave front _ _ _ first
    (c.write_behind.ensures.front front behind first.outcomes)

pub returns-in_err-write_behind-clause-front : goal.returns-in_err-write_behind-clause-front
returns-in_err-write_behind-clause-front g c = λ front le here.
    let first = c.write_batch.ensures.front front le here in
    let behind : length front ≤ c.in_ok-end.end = omega (
      arith,
      le,
      c.requires.end,
      c.in_ok-end.ensures.end,
      ap length c.in_ok-end.ensures.written,
      length-append (g.D.Device.seen c.args.device.now) (drop 1 (frames Second c.args.before.now c.args.batch.now)),
    ) in
    kept_on g.D.Device.moment g.D.Device.left_since g.D.Device.may_leave front _ _ _ first
    (c.write_behind.ensures.front front behind first.outcomes)

-- the buffer at once
pub overflow_sub-result : goal.overflow_sub-result
overflow_sub-result g c =
    let all = ungated_is c.args.before.now c.args.batch.now c.deref.result.now c.split_at.result.1.now
    c.in-Some.ensures.some (c.deref.ensures.value ∙ c.in-Some.ensures.bytes) c.split_at.ensures.back in
    omega (arith, all.1)

pub returns-clause-written : goal.returns-clause-written
returns-clause-written g c =
    let all = ungated_is c.args.before.now c.args.batch.now c.deref.result.now c.split_at.result.1.now
    c.in-Some.ensures.some (c.deref.ensures.value ∙ c.in-Some.ensures.bytes) c.split_at.ensures.back in
    c.in_ok-write_behind-2.ensures.written ∙ ap (λ (l : List ℕ). g.D.Device.seen c.args.device.now ++ l) all.0

pub returns-clause-end : goal.returns-clause-end
returns-clause-end g c =
    let all = ungated_is c.args.before.now c.args.batch.now c.deref.result.now c.split_at.result.1.now
    c.in-Some.ensures.some (c.deref.ensures.value ∙ c.in-Some.ensures.bytes) c.split_at.ensures.back in
    let old : List ℕ = g.D.Device.seen c.args.device.now in
    omega (
      arith,
      all.1,
      c.requires.end,
      ap length c.in_ok-write_behind-2.ensures.written,
      length-append old c.split_at.result.1.now,
    )
