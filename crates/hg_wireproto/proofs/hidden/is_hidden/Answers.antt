use Rattle.std.proofs.Common.{refl}
use Rattle.hg_wireproto.proofs.Hiding.{neither}
use Rattle.hg_wireproto.proofs.hidden.is_hidden.Goals as goal

pub returns : goal.returns
returns c = neither c.args.kept c.args.behind _ refl
