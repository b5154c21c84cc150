use Rattle.hg_push.proofs.Worlds.{all_bounded, open_opens, put_full, put_queued, take_taken}
use Rattle.hg_push.proofs.laws.events_happen.Goals as goal

pub returns : goal.returns
returns g c = record {
  opened = open_opens;
  queued = put_queued;
  full = put_full;
  taken = take_taken;
  bounded = λ capacity events. (all_bounded capacity events).room;
  unopened = λ capacity events. (all_bounded capacity events).unopened;
}
