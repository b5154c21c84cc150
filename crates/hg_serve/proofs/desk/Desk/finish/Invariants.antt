use Rattle.std.proofs.Common.{◌<◌, ◌≡◌, ◌≤◌, ◌+◌, ◌-◌, length}
use mathlib.Core.List.{IsPrefix}
use Rattle.hg_serve.specs.Histories.{ClosesLast}
use Rattle.hg_serve.specs.Desks.{IsKnown, IsSameBut}
use Rattle.hg_serve.specs.code.Waiting.{mark_place}
use Rattle.hg_serve.proofs.desk.Desk.finish.Given as goal

abbrev pub invariant-closing : goal.invariant-closing
invariant-closing g l = record {
  same : IsSameBut l.initial.self l.self;
  counted : l.takes + length l.initial.self.history ≡ length l.self.history;
  bound : l.takes ≤ g.J.Naming.capacity;
  last : 0 < l.takes → ClosesLast g.J.Naming.first l.fn.push l.self.history;
  later : IsPrefix l.initial.self.history l.self.history;
  known : IsKnown g.J.Naming.capacity l.self;
}

abbrev pub decreases-closing : goal.decreases-closing
decreases-closing g l = mark_place l.self.taker.awaited + 1 - length l.self.history
