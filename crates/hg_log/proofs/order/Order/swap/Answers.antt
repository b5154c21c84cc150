use Rattle.std.proofs.Common.{◌≡◌, slice_index}
use Rattle.std.proofs.lemmas.List.{get_or_read}
use Rattle.hg_log.proofs.Kept.{exchanged}
use Rattle.hg_log.proofs.order.Order.swap.Goals as goal

pub returns : goal.returns
returns g c =
    let rows = c.args.self.now.rows.items in
    let moved : c.index-moved.result.now ≡ slice_index rows c.args.first =
    get_or_read rows c.args.first _ c.requires.first c.index-moved.ensures 0 in
    let other : c.index-other.result.now ≡ slice_index rows c.args.second =
    get_or_read rows c.args.second _ c.requires.second c.index-other.ensures 0 in
    rw (moved, other) (exchanged rows c.args.self.now.places.items c.args.first c.args.second
    c.requires.inverse c.requires.first c.requires.second)
