use Rattle.std.proofs.Common.{◌∙◌, sym, ap, subst}
use Rattle.hg_parts.specs.Repository.{Repository, IsLawful}
use Rattle.hg_push.specs.History.{Serial}
use Rattle.hg_push.proofs.laws.the_repository_is_lawful.Goals as goal

pub returns : goal.returns
returns g c = λ first h holds.
    subst IsLawful (c.repo.ensures ∙ sym (ap (λ (s : Serial (Repository g.row.A.Denot)). s.repo) holds.state))
    c.every_repository_is_lawful.ensures
