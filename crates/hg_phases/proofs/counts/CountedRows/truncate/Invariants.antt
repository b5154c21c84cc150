use Rattle.std.proofs.Common.{◌≡◌, take, vec_len}
use Rattle.hg_phases.specs.Counts.{counts_of}
use Rattle.hg_phases.specs.Standing.{phases_told}
use Rattle.hg_phases.proofs.counts.CountedRows.truncate.Given as goal

abbrev pub invariant-cut : goal.invariant-cut
invariant-cut g l = record {
  front : take l.len l.self-inside.rows.items ≡ take l.len l.initial.self-inside.rows.items;
  counts : l.self-inside.counts ≡ counts_of (phases_told l.self-inside.rows.items);
}

abbrev pub decreases-cut : goal.decreases-cut
decreases-cut g l = vec_len l.self-inside.rows
