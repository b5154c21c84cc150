use Rattle.std.proofs.Common.{◌∙◌, List, ap}
use Rattle.hg_types.specs.declared.phase.Phase.{Phase}
use Rattle.hg_types.specs.declared.phase.Phase.TheVariants.{Draft, Secret}
use Rattle.hg_parts.specs.code.PhaseHeads.{advanced_to}
use Rattle.hg_parts.proofs.Heads.{in_phases_each}
use Rattle.hg_parts.proofs.parts.phase_heads.advance_each.Goals as goal

pub returns-clause-ok : goal.returns-clause-ok
returns-clause-ok g c =
    let rows = c.args.log.now.rows in
    let entries = c.args.entries.now in
    c.in_ok-advance_to-3.ensures.ok
    ∙ ap (λ (phases : List Phase). advanced_to rows Secret entries phases) (c.in_ok-advance_to-2.ensures.ok
    ∙ ap (λ (phases : List Phase). advanced_to rows Draft entries phases) c.in_ok-advance_to.ensures.ok)
    ∙ in_phases_each rows entries c.args.phases.now.current.phases
