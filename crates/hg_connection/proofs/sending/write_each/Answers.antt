use Rattle.std.proofs.Common.{inl, inr, refl, ap, take, drop, length, ◌-◌, arith}
use Rattle.hg_connection.specs.Devices.{Took, Refused}
use Rattle.hg_connection.proofs.Writing.{starts, more_sent, stops, all_written}
use Rattle.hg_connection.proofs.sending.write_each.Goals as goal

pub loop-sent-init : goal.loop-sent-init
loop-sent-init g c = starts _ c.args.bytes.now

pub loop-sent-preserved : goal.loop-sent-preserved
loop-sent-preserved g c =
    more_sent _ _ _ c.args.bytes.now c.loop-sent.sent c.in-Ok.count c.loop-sent.invariant
    (omega (arith, c.in-Ok.count-test.1)) c.in-Ok.ensures.bound c.in-Ok.ensures.write

pub returns-in-Ok-eq0 : goal.returns-in-Ok-eq0
returns-in-Ok-eq0 g c = stops _ _ _ c.args.bytes.now c.loop-sent.sent _ c.loop-sent.invariant
    c.loop-sent-test.true c.in-Ok-eq0.ensures.write
    (inl (ap (λ n. Took (take n
    (take (length c.args.bytes.now - c.loop-sent.sent) (drop c.loop-sent.sent c.args.bytes.now))))
    c.in-Ok-eq0.field-0-test))

pub returns-in-Err : goal.returns-in-Err
returns-in-Err g c = stops _ _ _ c.args.bytes.now c.loop-sent.sent Refused c.loop-sent.invariant
    c.loop-sent-test.true c.in-Err.ensures.write (inr refl)

pub returns : goal.returns
returns g c = all_written _ _ c.args.bytes.now c.loop-sent.sent c.loop-sent.invariant c.loop-sent-test.false
