use Rattle.std.proofs.Common.{length}
use Rattle.hg_store.proofs.Tails.{Walks}
use Rattle.hg_store.proofs.tail.hides_records.Given as goal

abbrev pub invariant-records : goal.invariant-records
invariant-records l = Walks l.version l.start l.fn.tail l.digest l.count l.beyond l.rest

abbrev pub decreases-records : goal.decreases-records
decreases-records l = length l.rest
