use Rattle.std.proofs.Common.{◌∙◌}
use Rattle.hg_status.proofs.Paging.{ended}
use Rattle.hg_status.proofs.page.put_end.Goals as goal

pub returns : goal.returns
returns g c =
    ended _ _ _ _ _ _ _ _ c.new-text.ensures.bytes (c.as_str.ensures.value ∙ c.in_ok-push_end.ensures) c.in_ok-put.ensures
