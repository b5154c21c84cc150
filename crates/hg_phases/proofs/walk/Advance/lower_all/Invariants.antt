use Rattle.std.proofs.Common.{◌+◌, ◌-◌, length, sum_by}
use Rattle.hg_log.specs.Parents.{parents_of}
use Rattle.hg_phases.specs.code.Tape.{rows_of, TapeFollows}
use Rattle.hg_phases.proofs.Lowered.{AreWalked, height}
use Rattle.hg_phases.proofs.walk.Advance.lower_all.Given as goal

abbrev pub invariant-loop-head : goal.invariant-loop-head
invariant-loop-head g l = record {
  follows : TapeFollows l.fn.rows l.fn.changes.items l.rows l.changes.items;
  walked : AreWalked (parents_of l.self.log.now.rows) l.self.target l.heads l.fn.rows l.head-index 0
      l.rows (rows_of l.changes.items);
}

abbrev pub invariant-down : goal.invariant-down
invariant-down g l = record {
  follows : TapeFollows l.fn.rows l.fn.changes.items l.rows l.changes.items;
  walked : AreWalked (parents_of l.self.log.now.rows) l.self.target l.heads l.fn.rows (length l.heads) l.place
      l.rows (rows_of l.changes.items);
}

abbrev pub decreases-down : goal.decreases-down
decreases-down g l = (sum_by height l.rows + length l.changes.items) - l.place
