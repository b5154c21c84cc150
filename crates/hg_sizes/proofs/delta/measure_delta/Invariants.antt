use Rattle.std.proofs.Common.{◌≡◌, ◌+◌, ◌-◌, ◌≤◌, length}
use Rattle.hg_sizes.specs.Measures.{measure_of, measure_within}
use Rattle.hg_sizes.proofs.Measuring.{behind}
use Rattle.hg_sizes.proofs.delta.measure_delta.Given as goal

-- what was counted, and what is still to be counted, is the measure
abbrev pub invariant-hunks : goal.invariant-hunks
invariant-hunks l = record {
  is : measure_of l.size l.delta
      ≡ behind l.kept l.brought (measure_within (length l.delta - l._turn) l.size l.before l.rest);
  counted : l.kept ≤ l.before;
  within : l.before ≤ l.size;
  few : l.brought + length l.rest ≤ length l.delta;
}
