use Rattle.std.proofs.Common.{◌++◌, ◌<◌, length, map}
use Rattle.std.specs.Prelude.{All}
use Rattle.std.specs.List.{flat_map}
use Rattle.hg_wireproto.specs.code.Branches.{heads_in}
use Rattle.hg_wireproto.specs.code.Doubt.{IsKin}
use Rattle.hg_wireproto.specs.code.Search.{AreApart}
use Rattle.hg_wireproto.proofs.Doubts.{HaveSame}
use Rattle.hg_wireproto.proofs.doubt.push_told.Given as goal

-- the heads so far, those of the branches in doubt, and those of the branches that are left; no changeset is of two
abbrev pub invariant-loop-branch : goal.invariant-loop-branch
invariant-loop-branch g l =
    HaveSame ((l.heads.items ++ flat_map (λ b. heads_in l.copied.rows b.revs.items) l.doubtful.items)
    ++ flat_map (λ b. heads_in l.copied.rows b.revs.items) l.branch-iterator.rest.items)
    (l.fn.heads.items ++ flat_map (λ b. heads_in l.copied.rows b.revs.items) l.fn.branches.items)
    × All (λ b. All (λ r. r < length l.copied.rows) b.revs.items) l.doubtful.items
    × All (λ b. IsKin l.copied.rows l.behind b.revs.items) l.branch-iterator.rest.items
    × AreApart (map (λ b. b.revs.items) l.doubtful.items ++ map (λ b. b.revs.items) l.branch-iterator.rest.items)
