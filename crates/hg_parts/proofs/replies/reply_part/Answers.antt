use Rattle.hg_parts.proofs.Writable.{is_reply}
use Rattle.hg_parts.proofs.replies.reply_part.Goals as goal

pub returns-clause-reply : goal.returns-clause-reply
returns-clause-reply g c =
    rw c.in_ok-reply.ensures
    (is_reply c.args.kind.now c.args.key.now c.args.value.now c.args.id c.requires c.ranges.id.fits)
