use Rattle.hg_repo.proofs.Reading.{same_of, held_of}
use Rattle.hg_repo.proofs.repo.Repo.is_same.Goals as goal

pub returns : goal.returns
returns g c = rw (← c.self.view_is, ← c.other.view_is) (
  (λ yes. same_of c.self.inside.settings c.other.inside.settings c.self.inside.store c.other.inside.store
      (c.are_same.ensures.0 yes)),
  (λ same. c.are_same.ensures.1
      (held_of c.self.inside.settings c.other.inside.settings c.self.inside.store c.other.inside.store
      same)),
)
