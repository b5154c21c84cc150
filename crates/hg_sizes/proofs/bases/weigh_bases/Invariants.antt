use Rattle.std.proofs.Common.{◌≡◌, ◌≤◌, ◌+◌, length}
use Rattle.hg_sizes.specs.Bases.{most_unknown, no_texts, unknown_behind}
use Rattle.hg_sizes.specs.code.Maps.{texts_of}
use Rattle.hg_sizes.proofs.bases.weigh_bases.Given as goal

-- what is counted so far, and what is still to be counted, are all
abbrev pub invariant-entries : goal.invariant-entries
invariant-entries g l = record {
  all : unknown_behind l.most l.log.rows no_texts l.fn.entries
      ≡ l.unknown + unknown_behind l.most l.log.rows (texts_of l.texts) l.left;
  few : l.unknown ≤ most_unknown;
}

abbrev pub decreases-entries : goal.decreases-entries
decreases-entries g l = length l.left
