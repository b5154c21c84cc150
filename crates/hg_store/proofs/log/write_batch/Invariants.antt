use Rattle.std.proofs.Common.{◌≡◌, ◌≤◌, ◌-◌, ◌++◌, ℕ, List, take, drop, length}
use Rattle.hg_store.specs.Records.{IsRecord, frames, last_digest}
use Rattle.hg_store.specs.declared.head.Version.TheVariants.{Second}
use Rattle.std.specs.List.{AllByRecursion}
use Rattle.hg_store.specs.code.Fronts.{Begin, KeepsFront}
use Rattle.hg_store.proofs.log.write_batch.Given as goal

-- those so far are written, but the gate of the first
abbrev pub invariant-loop-record : goal.invariant-loop-record
invariant-loop-record g l = record {
  written : g.D.Device.seen l.device ≡ g.D.Device.seen l.fn.device ++ drop 1 (frames Second l.fn.before (take
      l.record-index l.batch));
  end : l.at ≡ length (g.D.Device.seen l.device);
  digest : l.digest ≡ last_digest Second l.fn.before (take l.record-index l.batch);
  skipped : l.skipped ≡ 1 - length (frames Second l.fn.before (take l.record-index l.batch));
  few : l.skipped ≤ 1;
  each : AllByRecursion (IsRecord Second) (take l.record-index l.batch);
  front : (front : List ℕ) → length front ≤ l.fn.start → Begin front (g.D.Device.may_leave l.fn.device)
      → KeepsFront g.D.Device.moment g.D.Device.left_since g.D.Device.may_leave front l.fn.device l.device;
  later : g.D.Device.faults l.fn.device ≤ g.D.Device.faults l.device;
  beats : g.D.Device.beats l.fn.device ≤ g.D.Device.beats l.device;
}
