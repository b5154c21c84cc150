use Rattle.std.proofs.Common.{string_bytes}
use Rattle.hg_status.specs.Page.{HasPushRows}
use Rattle.hg_status.proofs.page.put_push_rows.Given as goal

-- rows of pushes were put
abbrev pub invariant-loop-push : goal.invariant-loop-push
invariant-loop-push g l = HasPushRows (string_bytes l.fn.page.text) (string_bytes l.page.text)
