use Rattle.std.proofs.Common.{◌≡◌, length, map, take}
use Rattle.hg_wireproto.specs.code.Search.{AreFirstsOf}
use Rattle.hg_wireproto.proofs.search.firsts_of.Given as goal

-- those of the branches so far are noted
abbrev pub invariant-loop-branch : goal.invariant-loop-branch
invariant-loop-branch g l = (length l.firsts.items ≡ l.len)
    × AreFirstsOf (take l.branch-index (map (λ b. b.revs.items) l.branches)) l.firsts.items
