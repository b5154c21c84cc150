use Rattle.std.proofs.Common.{sym, subst, ◌∙◌}
use Rattle.std.specs.Prelude.{All}
use Rattle.hg_stream.specs.Written.{CanBeWritten}
use Rattle.hg_push.proofs.Sending.{reason_sent}
use Rattle.hg_push.proofs.reply.reply_bytes.Goals as goal

pub write_bundle-requires-in-Aborted-clause-parts : goal.write_bundle-requires-in-Aborted-clause-parts
write_bundle-requires-in-Aborted-clause-parts g c =
    subst (All CanBeWritten) (sym (c.as_slice-in-Aborted.ensures ∙ c.in_ok-parts-in-Aborted.ensures))
    (reason_sent c.in-Aborted.reason)
