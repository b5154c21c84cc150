use Rattle.hg_repo.proofs.Reading.{predecessor_test}
use Rattle.hg_repo.proofs.repo.is_predecessor.Goals as goal

pub returns : goal.returns
returns g c = predecessor_test c.is_predecessor.result c.args.markers.now c.args.node.now
    c.is_predecessor.ensures
