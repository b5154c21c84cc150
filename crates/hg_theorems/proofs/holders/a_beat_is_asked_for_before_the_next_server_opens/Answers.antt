use Rattle.hg_theorems.proofs.Timeline.{over_before}
use Rattle.hg_theorems.proofs.holders.a_beat_is_asked_for_before_the_next_server_opens.Goals as goal

pub returns : goal.returns
returns c = over_before
