use Rattle.hg_parts.proofs.Bare.{reply_bare}
use Rattle.hg_parts.proofs.laws.replies_have_no_payload.Goals as goal

pub returns : goal.returns
returns g c = reply_bare
