use Rattle.std.proofs.Common.{◌≡◌, ◌++◌, ◌-◌, ◌≤◌, length, drop}
use Rattle.hg_wireproto.specs.Batch.{unescaped}
use Rattle.hg_wireproto.proofs.batch.unescape.Given as goal

-- the bytes so far and those of the rest are all
abbrev pub invariant-loop-place : goal.invariant-loop-place
invariant-loop-place g l =
    (l.place ≤ length l.text) × (l.bytes.items ++ unescaped (drop l.place l.text) ≡ unescaped l.text)

abbrev pub decreases-loop-place : goal.decreases-loop-place
decreases-loop-place g l = length l.text - l.place
