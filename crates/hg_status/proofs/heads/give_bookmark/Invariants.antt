use Rattle.std.proofs.Common.{◌≡◌, ◌++◌, drop, map, take}
use Rattle.hg_status.specs.code.Giving.{given}
use Rattle.hg_status.proofs.heads.give_bookmark.Given as goal

-- the heads so far have the bookmark, if they are on it
abbrev pub invariant-loop-head : goal.invariant-loop-head
invariant-loop-head g l =
    l.heads ≡ map (given (l.name, l.node)) (take l.head-index l.fn.heads) ++ drop l.head-index l.fn.heads
