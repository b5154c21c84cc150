use Rattle.hg_wireproto.specs.code.Sets.{AreEmpty}
use Rattle.hg_wireproto.proofs.Apart.{AreFoundBefore}
use Rattle.hg_wireproto.proofs.search.push_heads.Given as goal

-- the heads of the groups so far are found
abbrev pub invariant-loop-group : goal.invariant-loop-group
invariant-loop-group g l = AreEmpty l.behind.items
    × AreFoundBefore l.copied.rows l.firsts.items l.group l.fn.heads.items l.heads.items
