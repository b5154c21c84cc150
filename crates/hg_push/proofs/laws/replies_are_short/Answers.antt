use Rattle.hg_push.proofs.Shortness.{done_short, aborted_short}
use Rattle.hg_push.proofs.laws.replies_are_short.Goals as goal

pub returns-clause-done : goal.returns-clause-done
returns-clause-done g c =
    done_short c.bundles_of_bare_parts_are_short.ensures c.done_runs_leave_few_replies.ensures.few
    c.done_runs_leave_few_replies.ensures.bare

pub returns-clause-aborted : goal.returns-clause-aborted
returns-clause-aborted g c = aborted_short c.bundles_of_bare_parts_are_short.ensures
