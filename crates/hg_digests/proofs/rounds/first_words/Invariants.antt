use Rattle.std.proofs.Common.{◌≡◌, ℕ, ◌<◌, ◌*◌, length}
use Rattle.sha1.specs.Sha1.{word_at}
use Rattle.hg_digests.specs.code.Lanes.{lane_at, own}
use Rattle.hg_digests.proofs.rounds.first_words.Given as goal

abbrev pub invariant-load : goal.invariant-load
invariant-load l = (length l.w ≡ 16)
    × ((j k : ℕ) → j < 4 → k < l.i → lane_at l.w k j ≡ word_at (own l.blocks j) (4 * k))
