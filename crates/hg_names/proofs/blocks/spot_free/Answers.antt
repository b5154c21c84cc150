use Rattle.hg_names.specs.code.Blocks.{pairs_in, place_at}
use Rattle.hg_names.proofs.Lookups.{not_at}
use Rattle.hg_names.proofs.blocks.spot_free.Goals as goal

pub unreachable-requires : goal.unreachable-requires
unreachable-requires g c =
    not_at (pairs_in c.args.blocks.now) c.args.name.now (place_at c.args.blocks.now c.in-Ok.field-0)
    c.requires.in_order c.requires.absent c.in-Ok.ensures.found.at
