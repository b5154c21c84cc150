use Rattle.hg_log.proofs.Kept.{first_each, first_distinct}
use Rattle.hg_log.proofs.child_counts.ChildCounts.childless.Goals as goal

pub returns-clause-each : goal.returns-clause-each
returns-clause-each g c = rw (c.first.ensures, ← c.self.view_is) (first_each _ _ _ _ c.self.invariant)

pub returns-clause-distinct : goal.returns-clause-distinct
returns-clause-distinct g c = rw c.first.ensures (first_distinct _ _ _ _ c.self.invariant)
