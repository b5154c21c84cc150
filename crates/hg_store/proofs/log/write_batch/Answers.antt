use Rattle.std.proofs.Common.{◌≡◌, ◌≤◌, ℕ, List, length, take, drop, ap, arith}
use Rattle.std.proofs.Common.{length-append, length-drop}
use Rattle.hg_store.specs.Records.{frames}
use Rattle.hg_store.specs.declared.head.Version.TheVariants.{Second}
use Rattle.hg_store.proofs.Staying.{each_more, frames_grow, kept_on, more_written}
use Rattle.std.specs.Prelude.{Err}
use Rattle.std.proofs.lemmas.Result.{err_from_is_err_and}
use Rattle.hg_store.specs.declared.device.DeviceError.TheVariants.{Failed}
use Rattle.hg_store.proofs.log.write_batch.Goals as goal

pub returns-then-at-ge-MOST_BYTES-clause-full : goal.returns-then-at-ge-MOST_BYTES-clause-full
returns-then-at-ge-MOST_BYTES-clause-full g c = λ _.
    let i = c.loop-record.invariant in
    let so_far : List ℕ = frames Second c.args.before.now (take c.loop-record.record-index c.args.batch.now) in
    omega (
      arith,
      c.if-at-ge-MOST_BYTES.true,
      i.end,
      ap length i.written,
      c.requires.end,
      length-append (g.D.Device.seen c.args.device.now) (drop 1 so_far),
      length-drop 1 so_far,
      frames_grow c.args.before.now c.args.batch.now c.loop-record.record-index,
    )

pub returns-in_err-at-clause-front : goal.returns-in_err-at-clause-front
returns-in_err-at-clause-front g c = λ front le here.
    let i = c.loop-record.invariant in
    let so_far : List ℕ = frames Second c.args.before.now (take c.loop-record.record-index c.args.batch.now) in
    let first = i.front front le here in
    let at : length front ≤ c.loop-record.at = omega (
      arith,
      le,
      i.end,
      ap length i.written,
      c.requires.end,
      length-append (g.D.Device.seen c.args.device.now) (drop 1 so_far),
    ) in
    kept_on g.D.Device.moment g.D.Device.left_since g.D.Device.may_leave front _ _ _ first
    (c.write_record.ensures.front front at first.outcomes)

pub loop-record-preserved : goal.loop-record-preserved
loop-record-preserved g c =
    let i = c.loop-record.invariant in
    let so_far : List ℕ = frames Second c.args.before.now (take c.loop-record.record-index c.args.batch.now) in
    let more = more_written (g.D.Device.seen c.args.device.now) c.args.before.now c.args.batch.now
    c.loop-record.record-index c.loop-record.skipped (g.D.Device.seen c.loop-record.device)
    (g.D.Device.seen c.write_record.new.device) c.loop-record.digest c.chained-digest.result c.record-item.result
    c.loop-record-test.true c.record-item.is i.written i.digest i.skipped c.chained-digest.ensures
    (c.in_ok-at.ensures.written c.loop-record.digest c.chained-digest.ensures) in
    record {
      written = more.0;
      end = c.in_ok-at.ensures.end;
      digest = more.1;
      skipped = more.2;
      few = omega arith;
      each = each_more c.args.batch.now c.loop-record.record-index c.record-item.result c.loop-record-test.true
          c.record-item.is i.each c.write_record.ensures.stamp;
      front = λ front le here.
          let first = i.front front le here in
          let at : length front ≤ c.loop-record.at = omega (
            arith,
            le,
            i.end,
            ap length i.written,
            c.requires.end,
            length-append (g.D.Device.seen c.args.device.now) (drop 1 so_far),
          ) in
          kept_on g.D.Device.moment g.D.Device.left_since g.D.Device.may_leave front _ _ _ first
          (c.write_record.ensures.front front at first.outcomes);
      later = omega (arith, i.later, c.in_ok-at.ensures.later);
      beats = omega (arith, i.beats, c.in_ok-at.ensures.beats);
    }

pub returns-in_err-at-clause-failed : goal.returns-in_err-at-clause-failed
returns-in_err-at-clause-failed g c = λ is.
    let p = err_from_is_err_and c.from_residual.result c.from_residual.ensures.1 in
    let same : c.in_err-at.field-0.0 ≡ Failed = cc in
    omega (arith, c.loop-record.invariant.later, c.in_err-at.ensures.failed (ap Err same))
