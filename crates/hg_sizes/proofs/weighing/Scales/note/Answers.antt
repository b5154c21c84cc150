use Rattle.hg_sizes.specs.code.Maps.{sizes_of}
use Rattle.hg_sizes.proofs.Noting.{is_none, noted_first}
use Rattle.hg_sizes.proofs.weighing.Scales.note.Goals as goal

pub returns-in_ok-insert-clause-sizes : goal.returns-in_ok-insert-clause-sizes
returns-in_ok-insert-clause-sizes g c =
    noted_first (sizes_of c.args.self.now.sizes) (sizes_of c.insert.new.self) c.args.node c.args.size
    (λ q. c.in_ok-insert.ensures.updates.0 q)
    (is_none _ c.contains_key.result c.contains_key.ensures c.if-not-contains_key.true)
