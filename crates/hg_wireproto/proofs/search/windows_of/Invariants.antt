use Rattle.std.proofs.Common.{◌≤◌, length}
use Rattle.hg_wireproto.proofs.Searching.{AreWindows}
use Rattle.hg_wireproto.proofs.search.windows_of.Given as goal

-- they come by those so far
abbrev pub invariant-loop-rev : goal.invariant-loop-rev
invariant-loop-rev g l = (l.rev ≤ length l.firsts) × AreWindows l.firsts l.rev l.windows.items
