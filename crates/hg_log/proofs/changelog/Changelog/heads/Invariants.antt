use Rattle.std.proofs.Common.{take}
use Rattle.hg_log.proofs.HeadLemmas.{AreIdsOf}
use Rattle.hg_log.proofs.changelog.Changelog.heads.Given as goal

abbrev pub invariant-loop-rev : goal.invariant-loop-rev
invariant-loop-rev g l = AreIdsOf l.self.rows (take l.rev-index l.childless) l.heads.items
