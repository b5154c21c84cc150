use Rattle.std.proofs.Common.{◌≤◌, length}
use Rattle.std.specs.List.{AllByRecursion}
use Rattle.hg_store.specs.Records.{IsSized}
use Rattle.hg_store_tests.proofs.device_tests.records.Given as goal

abbrev pub invariant-loop-record : goal.invariant-loop-record
invariant-loop-record g l = record {
  some : l.record-index ≤ length l.batch.items;
  each : AllByRecursion IsSized l.batch.items;
}
