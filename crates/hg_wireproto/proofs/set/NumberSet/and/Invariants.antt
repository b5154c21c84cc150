use Rattle.std.proofs.Common.{◌≡◌, length}
use Rattle.hg_wireproto.proofs.NumberSets.{AreJoined}
use Rattle.hg_wireproto.proofs.set.NumberSet.and.Given as goal

-- those so far have the numbers of both
abbrev pub invariant-loop-place : goal.invariant-loop-place
invariant-loop-place l = (length l.fn.self.words ≡ 8) × (length l.other.words ≡ 8)
    × AreJoined l.place l.fn.self.words l.other.words l.words
