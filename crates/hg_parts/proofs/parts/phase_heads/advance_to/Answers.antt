use Rattle.std.proofs.Common.{◌∙◌, length, List, ap}
use Rattle.hg_types.specs.declared.phase.Phase.{Phase}
use Rattle.hg_phases.proofs.CallerLemmas.{length_advanced}
use Rattle.hg_parts.proofs.parts.phase_heads.advance_to.Goals as goal

pub returns-clause-count : goal.returns-clause-count
returns-clause-count g c =
    ap (λ (phases : List Phase). length phases) c.in_ok-advance.ensures.ok ∙ length_advanced _ _ _ _
    ∙ c.requires.count
