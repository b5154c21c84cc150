use Rattle.hg_push.specs.Run.{run_push}
use Rattle.hg_push.proofs.Places.{journal_grows, place_stays, rests_within}
use Rattle.hg_push.proofs.Turns.{outcome_later, parts_later}
use Rattle.hg_push.proofs.laws.journals_grow.Goals as goal

pub returns : goal.returns
returns g c = record {
  journal = journal_grows run_push;
  parts = parts_later;
  outcomes = outcome_later run_push;
  places = place_stays run_push;
  rests = rests_within run_push;
}
