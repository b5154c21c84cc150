use Rattle.hg_log.specs.Parents.{parents_of}
use Rattle.hg_phases.specs.code.Tape.{rows_of, TapeFollows}
use Rattle.hg_phases.specs.Standing.{phases_told}
use Rattle.hg_phases.specs.code.Walk.{AreRestood, IsTouched}
use Rattle.hg_phases.proofs.walk.Advance.restand_all.Given as goal

abbrev pub invariant-loop-place : goal.invariant-loop-place
invariant-loop-place g l = record {
  follows : TapeFollows l.initial.rows l.initial.changes.items l.rows l.changes.items;
  restood : AreRestood (parents_of l.self.log.now.rows)
      (λ r. IsTouched (parents_of l.self.log.now.rows) l.self.target (phases_told l.initial.rows)
      (rows_of l.initial.changes.items) l.place r)
      l.initial.rows l.rows;
}
