use Rattle.std.proofs.Common.{length}
use Rattle.hg_cgroup.proofs.Entries.{Took}
use Rattle.hg_cgroup.proofs.changeset.read_changesets.Given as goal

abbrev pub invariant-loop-entries : goal.invariant-loop-entries
invariant-loop-entries g l = Took l.version l.payload l.rest l.entries.items l.before

abbrev pub decreases-loop-entries : goal.decreases-loop-entries
decreases-loop-entries g l = length l.rest
