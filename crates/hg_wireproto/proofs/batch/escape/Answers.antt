use Rattle.std.proofs.Common.{◌∙◌}
use Rattle.hg_wireproto.proofs.Escapes.{piece_escaped}
use Rattle.hg_wireproto.proofs.batch.escape.Goals as goal

pub pieces-preserved : goal.pieces-preserved
pieces-preserved g c =
    piece_escaped 64 c.pieces.text.items c.pieces.rest.now _ c.push_piece.new.text.items c.in-Some.piece.now
    c.in-Some.more.now c.in-Some.ensures.cases.0 c.in-Some.ensures.cases.1 c.in_ok-push_piece.ensures
    c.pieces.invariant

pub returns : goal.returns
returns g c = c.in_ok-push_escaped.ensures ∙ c.pieces.invariant
