use Rattle.std.proofs.Common.{ℕ, ◌<◌, List, [], sym, ap, subst, ◌∙◌, set, length}
use Rattle.hg_types.specs.declared.node.Node.{Node}
use Rattle.hg_names.specs.declared.blocks.Block.{Block}
use Rattle.hg_names.specs.code.Blocks.{pairs_in, place_at}
use Rattle.hg_names.proofs.Flat.{changed}
use Rattle.hg_names.proofs.Own.{items, read_of, in_range}
use Rattle.hg_names.specs.Names.{AreInOrder}
use Rattle.hg_names.proofs.InOrder.{in_order_moved}
use Rattle.hg_names.proofs.blocks.move_in.Goals as goal

pub returns-clause-pairs : goal.returns-clause-pairs
returns-clause-pairs g c =
    let blocks = c.args.blocks.now.items in
    let spot = c.args.spot in
    let node = c.args.node in
    let block = c.index_mut.result.now in
    let pair = c.index_mut-pair.result.now in
    let is = c.index_mut.ensures.value in
    let own = c.requires.spot.within block in
    let lt : spot.1 < length (items block) = rw is own in
    let read = read_of blocks spot.0 spot.1 block pair c.requires.spot.block is lt c.index_mut-pair.ensures.value
    ([], node) in
    changed items blocks spot.0 block c.requires.spot.block _ spot.1 (pair.0, c.replace.new.dest) own
    (ap (λ (b : Block g.row.A.Denot). set (items b) spot.1 (pair.0, c.replace.new.dest)) is)
    ∙ ap (λ (n : Node). set (pairs_in blocks) (place_at blocks spot) (pair.0, n)) c.replace.ensures.after
    ∙ ap (λ (p : List ℕ × Node). set (pairs_in blocks) (place_at blocks spot) (p.0, node)) read

pub returns-clause-was : goal.returns-clause-was
returns-clause-was g c d =
    let blocks = c.args.blocks.now.items in
    let spot = c.args.spot in
    let block = c.index_mut.result.now in
    let pair = c.index_mut-pair.result.now in
    let is = c.index_mut.ensures.value in
    let own = c.requires.spot.within block in
    let lt : spot.1 < length (items block) = rw is own in
    let read = read_of blocks spot.0 spot.1 block pair c.requires.spot.block is lt c.index_mut-pair.ensures.value d in
    c.replace.ensures.value ∙ ap (λ (p : List ℕ × Node). p.1) read

pub returns-clause-in_order : goal.returns-clause-in_order
returns-clause-in_order g c =
    let blocks = c.args.blocks.now.items in
    let spot = c.args.spot in
    subst AreInOrder (sym (returns-clause-pairs g c))
    (in_order_moved (pairs_in blocks) (place_at blocks spot) c.args.node
    (in_range blocks c.index_mut.result.now spot c.requires.spot) c.requires.in_order)
