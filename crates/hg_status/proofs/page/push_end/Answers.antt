use Rattle.std.proofs.Common.{append_assoc}
use Rattle.hg_status.specs.Page.{end_text}
use Rattle.hg_status.proofs.page.push_end.Goals as goal

pub returns : goal.returns
unfolding end_text
returns g c =
    rw (
      c.in_ok-push_str-2.ensures.bytes,
      c.in_ok-push_moment-2.ensures,
      c.in_ok-write-2.ensures.bytes,
      c.in_ok-write.ensures.bytes,
      c.in_ok-push_moment.ensures,
      c.in_ok-push_str.ensures.bytes,
    ) (simp append_assoc)
