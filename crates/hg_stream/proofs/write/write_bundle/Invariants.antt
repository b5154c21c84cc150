use Rattle.std.proofs.Common.{◌≡◌, ◌++◌, [], take}
use Rattle.hg_stream.specs.Block.{sized}
use Rattle.hg_stream.specs.Frames.{magic}
use Rattle.hg_stream.specs.Written.{parts_bytes}
use Rattle.hg_stream.proofs.write.write_bundle.Given as goal

-- the parts so far are written
abbrev pub invariant-loop-place : goal.invariant-loop-place
invariant-loop-place g l = l.out.items ≡ (magic ++ sized []) ++ parts_bytes 0 (take l.place l.parts)
