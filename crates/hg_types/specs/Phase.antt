-- The number of a phase.
use Rattle.std.specs.Prelude.{ℕ}
use Rattle.hg_types.specs.declared.phase.Phase.{Phase}
use Rattle.hg_types.specs.declared.phase.Phase.TheVariants.{Public, Draft, Secret}

-- as Mercurial's phases module numbers them
abbrev pub number_of : Phase → ℕ
number_of Public = 0
number_of Draft = 1
number_of Secret = 2
