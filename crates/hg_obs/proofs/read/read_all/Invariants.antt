use Rattle.std.proofs.Common.{◌≡◌, length}
use Rattle.hg_types.specs.Bytes.{IsBytes}
use Rattle.hg_obs.specs.Reading.{with_front, markers_at, markers_of}
use Rattle.hg_obs.proofs.read.read_all.Given as goal

-- the markers so far, before those that are left, are all
abbrev pub invariant-loop-rest : goal.invariant-loop-rest
invariant-loop-rest g l =
    record {
      reads : with_front l.markers (markers_at l.rest) ≡ markers_of l.fn.bytes;
      bytes : IsBytes l.rest;
    }

abbrev pub decreases-loop-rest : goal.decreases-loop-rest
decreases-loop-rest g l = length l.rest
