use Rattle.hg_theorems.proofs.Fronts.{recovers}
use Rattle.hg_theorems.proofs.recovery.fronts_are_recovered.Goals as goal

pub returns : goal.returns
returns g c =
    recovers c.one_reading.ensures c.one_by_one.ensures.leads c.records_of_a_journal_run_as_it.ensures
    c.a_front_of_records_runs.ensures.joined c.records_lead_to_one_repository.ensures
    c.runs_keep_settings.ensures.records
