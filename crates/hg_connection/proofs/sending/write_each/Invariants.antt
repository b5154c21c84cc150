use Rattle.std.proofs.Common.{length, ◌-◌}
use Rattle.hg_connection.proofs.Writing.{WritesOn}
use Rattle.hg_connection.proofs.sending.write_each.Given as goal

abbrev pub invariant-loop-sent : goal.invariant-loop-sent
invariant-loop-sent g l = WritesOn (g.W.Writer.told l.fn.writer) (g.W.Writer.told l.writer) l.bytes l.sent

abbrev pub decreases-loop-sent : goal.decreases-loop-sent
decreases-loop-sent g l = length l.bytes - l.sent
