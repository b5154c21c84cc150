use Rattle.std.proofs.Common.{◌≡◌, length}
use Rattle.hg_status.specs.Brought.{fed}
use Rattle.hg_status.proofs.brought.Group.feed.Given as goal

abbrev pub invariant-feeding : goal.invariant-feeding
invariant-feeding l = fed l.group l.rest ≡ fed l.fn.self l.fn.bytes

abbrev pub decreases-feeding : goal.decreases-feeding
decreases-feeding l = length l.rest
