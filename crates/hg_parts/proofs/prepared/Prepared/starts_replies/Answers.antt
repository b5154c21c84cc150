use Rattle.std.proofs.Common.{◌∙◌}
use Rattle.hg_parts.proofs.Preparing.{made_starts}
use Rattle.hg_parts.proofs.prepared.Prepared.starts_replies.Goals as goal

pub returns : goal.returns
returns g c = λ part made. c.is_replycaps.ensures ∙ made_starts part c.args.self.now made
