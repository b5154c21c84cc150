use Rattle.std.proofs.Common.{◌+◌, ◌≤◌, length}
use Rattle.hg_wireproto.proofs.Searching.{AreFound, AreHanded}
use Rattle.hg_wireproto.proofs.search.push_some.Given as goal

-- the changesets from there on are told, and gave what is behind them to those before
abbrev pub invariant-loop-rev : goal.invariant-loop-rev
invariant-loop-rev g l = (l.window.end ≤ l.window.first + length l.behind.items)
    × (l.rev ≤ l.window.end)
    × AreHanded l.copied.rows l.firsts l.group l.window.first l.rev l.behind.items
    × AreFound l.copied.rows l.firsts l.group l.rev l.fn.heads.items l.heads.items
