use Rattle.std.proofs.Common.{false}
use Rattle.hg_web.proofs.Later.{said_or_lacks}
use Rattle.hg_web.proofs.answering.answer_command.Goals as goal

pub returns-in-Capabilities-clause-answered : goal.returns-in-Capabilities-clause-answered
returns-in-Capabilities-clause-answered g c =
    rw c.in-Capabilities.is
    (said_or_lacks false _ c.capabilities.result c.args.client c.capabilities.ensures)

pub returns-in-GetBundle-clause-answered : goal.returns-in-GetBundle-clause-answered
returns-in-GetBundle-clause-answered g c =
    rw c.in-GetBundle.is
    (said_or_lacks false _ c.answer_pull.result c.args.client c.answer_pull.ensures)
