use Rattle.std.proofs.Common.{◌∙◌, List, ℕ, codes, ap}
use Rattle.hg_parts.specs.Replies.{reply_part}
use Rattle.hg_parts.specs.parts.Pushkey.{reply_to_key}
use Rattle.hg_parts.proofs.Numbers.{replied}
use Rattle.hg_parts.proofs.parts.pushkey.reply_to_key.Goals as goal

pub returns-clause-value : goal.returns-clause-value
returns-clause-value g c =
    replied c.args.replying c.in_ok-reply.reply (reply_to_key {A = g.row.A.Denot} c.args.id c.args.done)
    c.if-not-replying.false
    (c.in_ok-reply.ensures.value
    ∙ ap (λ (bytes : List ℕ). reply_part {A = g.row.A.Denot} (codes "reply:pushkey") c.args.id
    (codes "return") bytes) c.result_text.ensures)
