use Rattle.std.proofs.Common.{◌≡◌, ◌<◌, take, length, All}
use Rattle.hg_parts.specs.parts.Changegroup.{revs_of}
use Rattle.hg_parts.proofs.parts.changegroup.revs_of.Given as goal

-- the numbers of the entries so far
abbrev pub invariant-loop-entry : goal.invariant-loop-entry
invariant-loop-entry g l = record {
  made : l.revs.items ≡ revs_of l.log.rows (take l.entry-index l.entries);
  within : All (λ rev. rev < length l.log.rows) l.revs.items;
}
