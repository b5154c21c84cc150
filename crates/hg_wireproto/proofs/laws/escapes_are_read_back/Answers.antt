use Rattle.hg_wireproto.proofs.EscapeLaws.{escapes_back, escapes_apart}
use Rattle.hg_wireproto.proofs.laws.escapes_are_read_back.Goals as goal

pub returns : goal.returns
returns c = record { back = escapes_back; apart = escapes_apart }
