use Rattle.std.proofs.Common.{◌≡◌, ◌≤◌, ◌*◌, ◌^◌, take}
use Rattle.std.specs.List.{sum_by}
use Rattle.hg_store_tools.specs.ChangesetCount.{changesets_in}
use Rattle.hg_store_tools.proofs.brought.count_changesets.Given as goal

-- those of the parts so far, each of which has less than a length can be
abbrev pub invariant-loop-part : goal.invariant-loop-part
invariant-loop-part g l = record {
  is : l.count ≡ sum_by changesets_in (take l.part-index l.parts);
  few : l.count ≤ l.part-index * 2 ^ 64;
}
