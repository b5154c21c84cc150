use Rattle.hg_names.specs.code.Blocks.{pairs_in, place_at}
use Rattle.hg_names.proofs.Lookups.{not_free}
use Rattle.hg_names.proofs.blocks.spot_named.Goals as goal

pub unreachable-requires : goal.unreachable-requires
unreachable-requires g c =
    not_free (pairs_in c.args.blocks.now) c.args.name.now (place_at c.args.blocks.now c.in-Err.field-0)
    c.requires.there c.in-Err.ensures.absent.gap
