use Rattle.std.proofs.Common.{◌≡◌, ◌+◌, ◌<◌, ◌≤◌, length}
use Rattle.hg_wireproto.specs.code.Standing.{AreLines}
use Rattle.hg_wireproto.proofs.Standings.{Looked}
use Rattle.hg_wireproto.proofs.standing.standing_of.Given as goal

-- the lines of the rows so far, and what was found of them
abbrev pub invariant-loop-next : goal.invariant-loop-next
invariant-loop-next g l = record {
  after : l.rev < l.next;
  within : l.next ≤ l.count;
  as_long : l.rev + length l.lines.items ≡ l.next;
  are : AreLines l.copied.rows l.rev l.lines.items;
  looked : Looked l.copied.rows l.copied.markers l.copied.phases l.rev l.next l.shown;
}
