use Rattle.hg_push.specs.History.{parts, serial}
use Rattle.hg_push.specs.Run.{run_push}
use Rattle.hg_push.proofs.Journals.{one_by_one}
use Rattle.hg_push.proofs.LawfulRows.{in_turn_lawful}
use Rattle.hg_push.proofs.laws.done_pushes_keep_the_repository_lawful.Goals as goal

pub returns : goal.returns
returns g c = λ first h lawful bytes.
    let s = serial run_push first h in
    in_turn_lawful c.runs_keep_repositories_lawful.ensures (λ p. parts p h) bytes first s.journal s.repo
    lawful (one_by_one run_push first h)
