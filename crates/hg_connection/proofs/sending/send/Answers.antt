use Rattle.std.proofs.Common.{inr, refl, arith}
use Rattle.hg_connection.specs.Devices.{Flushed, NotFlushed}
use Rattle.hg_connection.specs.declared.sending.Sending.TheVariants.{Whole, Broken}
use Rattle.hg_connection.proofs.Writing.{breaks_off, finishes}
use Rattle.hg_connection.proofs.sending.send.Goals as goal

pub returns-then-sent-bytes : goal.returns-then-sent-bytes
returns-then-sent-bytes g c =
    breaks_off _ _ c.args.bytes.now c.write_each-sent.result c.write_each-sent.ensures
    (omega (arith, c.if-sent-bytes.true))

pub returns-in-Ok : goal.returns-in-Ok
returns-in-Ok g c = finishes Whole _ _ _ c.args.bytes.now c.write_each-sent.result Flushed
    c.write_each-sent.ensures (omega (arith, c.if-sent-bytes.false)) c.in-Ok.ensures refl
    (λ pieces. (refl, refl))

pub returns-in-Err : goal.returns-in-Err
returns-in-Err g c = finishes Broken _ _ _ c.args.bytes.now c.write_each-sent.result NotFlushed
    c.write_each-sent.ensures (omega (arith, c.if-sent-bytes.false)) c.in-Err.ensures refl
    (λ pieces. inr (refl, refl))
