use Rattle.std.proofs.Common.{◌∙◌, append_assoc, sym}
use Rattle.hg_status.proofs.Paging.{refusals_some}
use Rattle.hg_status.proofs.refusals.push_line.Goals as goal

pub returns : goal.returns
returns g c =
    rw (
      refusals_some c.args.items.now (sym c.is_empty.ensures ∙ c.if-is_empty.false),
      c.in_ok-push_str-4.ensures.bytes,
      c.in_ok-push_str-3.ensures.bytes,
      c.in_ok-push_str-2.ensures.bytes,
    ) (simp append_assoc)
