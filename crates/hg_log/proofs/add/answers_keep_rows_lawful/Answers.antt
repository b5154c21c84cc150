use Rattle.hg_log.proofs.Staying.{stay_lawful, leaves_told}
use Rattle.hg_log.proofs.add.answers_keep_rows_lawful.Goals as goal

pub returns-clause-lawful : goal.returns-clause-lawful
returns-clause-lawful g c = stay_lawful

pub returns-clause-leaves : goal.returns-clause-leaves
returns-clause-leaves g c = leaves_told
