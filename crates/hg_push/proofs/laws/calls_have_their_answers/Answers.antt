use Rattle.hg_push.specs.Run.{run_push}
use Rattle.hg_push.proofs.Answering.{answers_as_many, each_answer, is_outcome, may_be_refused, opens_next}
use Rattle.hg_push.proofs.Answering.{other_kind}
use Rattle.hg_push.proofs.laws.calls_have_their_answers.Goals as goal

pub returns : goal.returns
returns g c = record {
  opened = opens_next run_push;
  refused = may_be_refused run_push;
  replied = is_outcome run_push;
  kinds = other_kind run_push;
  as_many = answers_as_many run_push;
  each = each_answer run_push;
}
