use Rattle.std.proofs.Common.{◌+◌, ◌-◌, ◌≤◌}
use Rattle.hg_import.proofs.Fronts.{HasRead}
use Rattle.hg_import.proofs.reading.read_front.Given as goal

-- the bytes so far were read, so many are left to read, and few reads were interrupted
abbrev pub invariant-reads : goal.invariant-reads
invariant-reads g l =
    HasRead l.bytes.items (g.R.Reader.told l.fn.reader) (g.R.Reader.told l.reader) l.left l.most
    × (l.interrupted ≤ 1000000)

abbrev pub decreases-reads : goal.decreases-reads
decreases-reads g l = l.left + (1000000 - l.interrupted)
