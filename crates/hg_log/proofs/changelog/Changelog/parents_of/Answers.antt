use Rattle.hg_log.specs.Add.IsAnswer.{unknown_parent}
use Rattle.hg_log.proofs.Answering.{answer_no_parents}
use Rattle.hg_log.proofs.changelog.Changelog.parents_of.Goals as goal

pub returns-in_default-clause-fault : goal.returns-in_default-clause-fault
returns-in_default-clause-fault g c = unknown_parent c.requires (λ both. c.in_default.ensures'.unknown both.1)

pub returns-in_default-2-clause-fault : goal.returns-in_default-2-clause-fault
returns-in_default-2-clause-fault g c =
    unknown_parent c.requires (λ both. (rw c.in_default.is-0 at c.parent.ensures.unknown) both.0)

pub returns-in_default-clause-value : goal.returns-in_default-clause-value
returns-in_default-clause-value g c =
    answer_no_parents c.args.self.now c.args.entry.now c.requires
    (λ both. c.in_default.ensures'.unknown both.1)

pub returns-in_default-2-clause-value : goal.returns-in_default-2-clause-value
returns-in_default-2-clause-value g c =
    answer_no_parents c.args.self.now c.args.entry.now c.requires
    (λ both. (rw c.in_default.is-0 at c.parent.ensures.unknown) both.0)
