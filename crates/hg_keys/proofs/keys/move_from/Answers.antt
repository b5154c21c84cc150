use Rattle.std.proofs.Common.{length, ap, ◌∙◌}
use Rattle.hg_phases.specs.Phases.{Saved}
use Rattle.hg_phases.proofs.CallerLemmas.{length_advanced}
use Rattle.hg_keys.proofs.keys.move_from.Goals as goal
use Rattle.hg_keys.proofs.keys.move_from.Goals.{in-Some+in_ok-advance-in-Some, in-None+in_ok-advance-in-None}

-- an advance leaves as many phases as there were
pub returns-then-number-2-clause-count : goal.returns-then-number-2-clause-count
returns-then-number-2-clause-count g c =
    elim c.match-rev.branch [
      | in-Some+in_ok-advance-in-Some w ↦
          ap (λ (m : Saved). length m.current.phases) w.phases-is
          ∙ ap length w.in_ok-advance-in-Some.ensures.ok ∙ length_advanced _ _ _ _ ∙ c.requires.count
      | in-None+in_ok-advance-in-None w ↦
          ap (λ (m : Saved). length m.current.phases) w.phases-is
          ∙ ap length w.in_ok-advance-in-None.ensures.ok ∙ length_advanced _ _ _ _ ∙ c.requires.count
    ]
