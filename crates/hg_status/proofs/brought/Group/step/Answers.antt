use Rattle.std.proofs.Common.{sym, arith}
use Rattle.hg_status.proofs.Feeding.{fed_over, fed_skipped, rest_is}
use Rattle.hg_status.proofs.brought.Group.step.Goals as goal

pub returns-then-self-clause-fed : goal.returns-then-self-clause-fed
returns-then-self-clause-fed c = sym (fed_over c.args.self c.args.bytes.now c.if-self.true)

pub returns-then-self-gt0-clause-fed : goal.returns-then-self-gt0-clause-fed
returns-then-self-gt0-clause-fed c =
    rw (rest_is c.min-skipped.result c.args.bytes.now)
    (fed_skipped c.min-skipped.result c.args.self c.args.self.left c.args.bytes.now c.if-self.false
    (omega (arith, c.min-skipped.ensures)) (omega (arith, c.min-skipped.ensures)))
