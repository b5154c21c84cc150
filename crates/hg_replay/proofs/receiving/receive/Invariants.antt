use Rattle.std.proofs.Common.{ℕ, ◌≤◌, List, [], length}
use Rattle.hg_types.specs.Limits.{standard_limits}
use Rattle.hg_connection.specs.Turns.{IsReceiving}
use Rattle.hg_replay.proofs.receiving.receive.Given as goal

abbrev pub invariant-loop-turn : goal.invariant-loop-turn
invariant-loop-turn g l = record {
  fed : List ℕ;
  reads : IsReceiving standard_limits [] (g.R.Reader.told l.fn.reader) fed l.inbox
      (g.R.Reader.told l.reader) l.bundle [];
  turns : l._turn ≤ length fed;
  within : length fed ≤ 268435456;
}
