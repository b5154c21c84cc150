use Rattle.std.proofs.Common.{◌≡◌, take}
use Rattle.std.specs.List.{AllByRecursion}
use Rattle.hg_store.specs.Records.{IsRecord, frames, last_digest}
use Rattle.hg_store.specs.declared.head.Version.TheVariants.{Second}
use Rattle.hg_store.proofs.log.put_batch.Given as goal

-- those so far
abbrev pub invariant-loop-record : goal.invariant-loop-record
invariant-loop-record g l = record {
  bytes : l.out.items ≡ frames Second l.fn.before (take l.record-index l.batch);
  digest : l.digest ≡ last_digest Second l.fn.before (take l.record-index l.batch);
  each : AllByRecursion (IsRecord Second) (take l.record-index l.batch);
}
