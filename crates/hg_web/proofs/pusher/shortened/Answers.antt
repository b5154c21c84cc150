use Rattle.std.proofs.Common.{◌∙◌, ap, take}
use Rattle.std.proofs.lemmas.List.{take_min}
use Rattle.hg_web.proofs.pusher.shortened.Goals as goal

pub returns : goal.returns
returns c = ap (λ count. take count c.args.name.now) c.min.ensures ∙ take_min 255 c.args.name.now
