use Rattle.hg_theorems.proofs.Settings.{of_push, of_records}
use Rattle.hg_theorems.proofs.recovery.runs_keep_settings.Goals as goal

pub returns-clause-push : goal.returns-clause-push
returns-clause-push g c = of_push

pub returns-clause-records : goal.returns-clause-records
returns-clause-records g c = of_records
