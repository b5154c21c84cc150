use Rattle.std.proofs.Common.{◌≡◌, length}
use Rattle.hg_sizes.specs.Weights.{excess_in, excess_of, load_behind}
use Rattle.hg_sizes.specs.code.Maps.{load_of}
use Rattle.hg_sizes.proofs.weighing.weigh.Given as goal

-- what is found of the rest is found of all
abbrev pub invariant-entries : goal.invariant-entries
invariant-entries g l =
    excess_of l.most l.bytes l.fn.entries l.fn.here ≡ excess_in (load_behind l.most (load_of l.scales) l.left l.rows)

abbrev pub decreases-entries : goal.decreases-entries
decreases-entries g l = length l.left
