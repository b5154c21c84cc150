use Rattle.std.proofs.Common.{◌↔◌, length, map}
use Rattle.hg_params.specs.Header.{AreDistinct}
use Rattle.hg_params.proofs.params.are_distinct.Given as goal

-- the keys of all are distinct just where those of the rest are
abbrev pub invariant-loop-first : goal.invariant-loop-first
invariant-loop-first g l = AreDistinct (map (λ p. p.key) l.rest) ↔ AreDistinct (map (λ p. p.key) l.params)

abbrev pub decreases-loop-first : goal.decreases-loop-first
decreases-loop-first g l = length l.rest
