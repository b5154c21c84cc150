use Rattle.std.proofs.Common.{◌∙◌, sym, subst}
use Rattle.hg_wireproto.specs.Viewed.{IsBefore}
use Rattle.hg_wireproto.proofs.Publishing.{goes_on, nothing_front}
use Rattle.hg_wireproto_tests.proofs.Watching.{of_what_came}
use Rattle.hg_wireproto_tests.proofs.watched.Watched.bring_up.Goals as goal

pub with-requires : goal.with-requires
with-requires g c =
    subst (λ view. IsBefore view c.in_ok-came.came) (sym c.replace-held.ensures.value)
    (goes_on c.self.inside.held c.in_ok-came.came _ _ _ c.self.inside.log.rows c.self.inside.markers
    c.self.inside.phases.current.phases c.seen.ensures.changesets c.seen.ensures.markers c.seen.ensures.obsolete
    c.seen.ensures.phases c.self.invariant.0 c.in_ok-came.ensures)

pub invariant_of-self : goal.invariant_of-self
invariant_of-self g c = (
  nothing_front c.replace-held.new.dest _ _ _ (c.replace-held.ensures.after ∙ c.new.ensures),
  c.self.invariant.1,
)

pub invariant_of-self-2 : goal.invariant_of-self-2
invariant_of-self-2 g c = (
  of_what_came _ c.in_ok-came.came _ _ _ _ _ _ c.in_ok-self-inside.ensures c.in_ok-came.ensures,
  c.self.invariant.1,
)
