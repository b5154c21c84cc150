use Rattle.hg_repo.proofs.repo.Repo.heads.Goals as goal

pub returns-clause-value : goal.returns-clause-value
returns-clause-value g c = rw (← c.self.view_is) c.heads.ensures.value
