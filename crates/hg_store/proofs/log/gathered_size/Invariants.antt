use Rattle.std.proofs.Common.{◌≡◌, ℕ, ◌≤◌, ◌^◌, List, length, take}
use Rattle.hg_store.specs.Records.{frames}
use Rattle.hg_store.specs.declared.head.Version.TheVariants.{Second}
use Rattle.hg_store.proofs.log.gathered_size.Given as goal

-- the bytes of those so far
abbrev pub invariant-loop-record : goal.invariant-loop-record
invariant-loop-record g l = record {
  size : (before : List ℕ) → l.size ≡ length (frames Second before (take l.record-index l.batch));
  few : l.size ≤ 2 ^ 20;
}
