use Rattle.std.proofs.Common.{append_assoc}
use Rattle.hg_status.proofs.rows.push_outcome.Goals as goal

pub returns-in_ok-push_reason-in-Aborted : goal.returns-in_ok-push_reason-in-Aborted
returns-in_ok-push_reason-in-Aborted g c =
    rw (c.in_ok-push_reason-in-Aborted.ensures, c.in_ok-push_str-in-Aborted.ensures.bytes, c.in-Aborted.is) (simp append_assoc)
