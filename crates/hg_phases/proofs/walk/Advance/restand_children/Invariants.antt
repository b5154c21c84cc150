use Rattle.std.proofs.Common.{length}
use Rattle.hg_log.specs.Parents.{parents_of}
use Rattle.hg_phases.specs.code.Tape.{TapeFollows}
use Rattle.hg_phases.specs.Standing.{phases_told}
use Rattle.hg_phases.specs.code.Walk.{AreRestood, IsHigher}
use Rattle.hg_phases.proofs.Restood.{IsLater, IsNext, steps}
use Rattle.hg_phases.proofs.walk.Advance.restand_children.Given as goal

abbrev pub invariant-children : goal.invariant-children
invariant-children g l = record {
  follows : TapeFollows l.initial.rows l.initial.changes.items l.rows l.changes.items;
  restood : AreRestood (parents_of l.self.log.now.rows) (λ r. IsLater (parents_of l.self.log.now.rows) l.row l.next r
      × IsHigher l.self.target (phases_told l.initial.rows) r) l.initial.rows l.rows;
  next : IsNext (parents_of l.self.log.now.rows) l.row (length l.self.log.now.rows) l.next;
}

abbrev pub decreases-children : goal.decreases-children
decreases-children g l = steps (parents_of l.self.log.now.rows) l.next
