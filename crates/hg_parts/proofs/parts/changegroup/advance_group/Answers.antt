use Rattle.std.proofs.Common.{◌∙◌, length, List, ap}
use Rattle.hg_types.specs.declared.phase.Phase.{Phase}
use Rattle.hg_log.specs.Parents.{parents_of}
use Rattle.hg_phases.proofs.CallerLemmas.{length_advanced}
use Rattle.hg_parts.proofs.parts.changegroup.advance_group.Goals as goal

pub returns-in_ok-advance-in-Push-clause-count : goal.returns-in_ok-advance-in-Push-clause-count
returns-in_ok-advance-in-Push-clause-count g c =
    ap (λ (phases : List Phase). length phases) c.in_ok-advance-in-Push.ensures.ok
    ∙ length_advanced (parents_of c.args.log.now.rows) c.args.t c.as_slice.result.now
    c.args.phases.now.current.phases ∙ c.requires.count
