use Rattle.std.proofs.Common.{◌-◌, length}
use mathlib.Core.List.{IsPrefix}
use Rattle.hg_commit.specs.Handing.{IsWithin, MovesTo}
use Rattle.hg_commit.specs.declared.disk.TheConstants.{BATCH, BATCH_BYTES}
use Rattle.hg_commit.proofs.waiting.Waiting.load.Given as goal

abbrev pub invariant-loading : goal.invariant-loading
invariant-loading g l = record {
  seen : IsPrefix l.self.history l.disk.history;
  moved : MovesTo l.fn.self.records l.fn.disk.batch l.self.records l.disk.batch;
  within : IsWithin BATCH BATCH_BYTES l.fn.disk.batch l.disk.batch;
}

-- how many more there may be
abbrev pub decreases-loading : goal.decreases-loading
decreases-loading g l = BATCH - length l.disk.batch
