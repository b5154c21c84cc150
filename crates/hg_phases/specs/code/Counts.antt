-- Counts by phase, with one row more or less.
use Rattle.std.specs.Prelude.{ℕ, ◌+◌, ◌-◌}
use Rattle.hg_types.specs.declared.phase.Phase.{Phase}
use Rattle.hg_types.specs.declared.phase.Phase.TheVariants.{Public, Draft, Secret}
use Rattle.hg_phases.specs.declared.counts.PhaseCounts.{PhaseCounts}

-- how many are in that phase
abbrev pub count_in : Phase → PhaseCounts → ℕ
count_in Public counts = counts.public
count_in Draft counts = counts.draft
count_in Secret counts = counts.secret

-- one more in that phase
abbrev pub one_more : Phase → PhaseCounts → PhaseCounts
one_more Public counts = record counts { public = counts.public + 1 }
one_more Draft counts = record counts { draft = counts.draft + 1 }
one_more Secret counts = record counts { secret = counts.secret + 1 }

-- one less in that phase
abbrev pub one_less : Phase → PhaseCounts → PhaseCounts
one_less Public counts = record counts { public = counts.public - 1 }
one_less Draft counts = record counts { draft = counts.draft - 1 }
one_less Secret counts = record counts { secret = counts.secret - 1 }
