use Rattle.hg_push.proofs.Replying.{cut_at}
use Rattle.hg_push.proofs.reply.telling.Goals as goal

pub returns : goal.returns
returns g c = rw (
  c.in_ok-key.ensures,
  c.in_ok-value.ensures,
  cut_at c.args.value.now c.min-end.result c.min-end.ensures,
)
