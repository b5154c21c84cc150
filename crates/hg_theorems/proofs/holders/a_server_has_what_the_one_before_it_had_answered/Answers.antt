use Rattle.hg_theorems.proofs.Rows.{succeeds}
use Rattle.hg_theorems.proofs.holders.a_server_has_what_the_one_before_it_had_answered.Goals as goal

pub returns : goal.returns
returns g c = λ publishing head. succeeds g.D.Device.moment g.D.Device.left_since g.D.Device.may_leave publishing head
    (c.fronts_are_recovered.ensures publishing head) (c.what_a_client_saw_done_is_recovered.ensures publishing head)
    c.a_front_of_records_runs.ensures.split c.a_front_of_records_runs.ensures.joined
    c.records_lead_to_one_repository.ensures
