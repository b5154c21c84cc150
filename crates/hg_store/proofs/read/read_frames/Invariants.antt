use Rattle.std.proofs.Common.{length}
use Rattle.hg_store.proofs.Reading.{HasRead}
use Rattle.hg_store.proofs.read.read_frames.Given as goal

abbrev pub invariant-records : goal.invariant-records
invariant-records g l = HasRead l.version l.start l.fn.bytes l.records l.digest l.rest

abbrev pub decreases-records : goal.decreases-records
decreases-records g l = length l.rest
