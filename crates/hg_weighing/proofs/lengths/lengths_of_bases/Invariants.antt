use Rattle.std.proofs.Common.{◌≡◌, map, take}
use Rattle.hg_weighing.specs.Lengths.{length_in}
use Rattle.hg_weighing.proofs.lengths.lengths_of_bases.Given as goal

-- the lengths so far
abbrev pub invariant-loop-entry : goal.invariant-loop-entry
invariant-loop-entry g l = l.lengths.items ≡ map (λ entry. length_in l.log.rows entry.base) (take l.entry-index l.entries)
