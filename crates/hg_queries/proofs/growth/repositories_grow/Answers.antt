use Rattle.hg_queries.proofs.RunGrowth.{serial_grows}
use Rattle.hg_queries.proofs.growth.repositories_grow.Goals as goal

pub returns : goal.returns
returns g c = serial_grows
