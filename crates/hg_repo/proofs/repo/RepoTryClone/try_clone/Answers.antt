use Rattle.hg_parts.proofs.CallerLemmas.{sound_unsaved}
use Rattle.hg_repo.proofs.repo.RepoTryClone.try_clone.Goals as goal

pub invariant_of-result : goal.invariant_of-result
invariant_of-result g c =
    rw (c.in_ok-store.ensures) (sound_unsaved c.self.inside.settings c.self.inside.store c.self.invariant)
