use Rattle.hg_digests.proofs.LaneLemmas.{parity_lanes}
use Rattle.hg_digests.proofs.rounds.parity.Goals as goal

pub returns : goal.returns
returns c = parity_lanes c.args.x c.args.y c.args.z c.fits-x.0 c.fits-y.0 c.fits-z.0
