use Rattle.hg_wireproto.specs.Once.{named_in, pieces_named}
use Rattle.hg_wireproto.proofs.Pieces.{all_pieces, piece_more}
use Rattle.hg_wireproto.proofs.once.pieces_named.Goals as goal

pub returns : goal.returns
unfolding pieces_named
returns g c =
    all_pieces (named_in c.args.name.now) c.deref-piece-items.result.now c.in_ok-pieces.pieces.items
    c.loop-piece.piece-index _ c.loop-piece.named c.loop-piece-test.false c.deref-piece-items.ensures.value
    c.in_ok-pieces.ensures c.loop-piece.invariant

pub loop-piece-preserved : goal.loop-piece-preserved
loop-piece-preserved g c =
    piece_more (named_in c.args.name.now) c.deref-piece-items.result.now c.loop-piece.piece-index _ c.loop-piece.named
    c.push_named.new.named c.loop-piece-test.true c.loop-piece.invariant c.in_ok-push_named.ensures
