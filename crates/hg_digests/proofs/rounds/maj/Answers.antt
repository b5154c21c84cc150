use Rattle.hg_digests.proofs.LaneLemmas.{maj_lanes}
use Rattle.hg_digests.proofs.rounds.maj.Goals as goal

pub returns : goal.returns
returns c = maj_lanes c.args.x c.args.y c.args.z c.fits-x.0 c.fits-y.0 c.fits-z.0
