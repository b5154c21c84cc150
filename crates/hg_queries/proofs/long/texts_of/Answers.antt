use Rattle.std.proofs.Common.{◌+◌, sym, subst, take}
use Rattle.std.specs.List.{AllZip}
use Rattle.hg_queries.specs.Copied.{IsOfPiece}
use Rattle.hg_wireproto.specs.BranchMap.{IsBranchMap}
use Rattle.hg_wireproto.specs.Heads.{IsHeadsText}
use Rattle.hg_queries.proofs.Copied.{has_text}
use Rattle.hg_queries.proofs.Lists.{AllZip_next}
use Rattle.hg_queries.proofs.long.texts_of.Goals as goal

pub loop-piece-preserved : goal.loop-piece-preserved
loop-piece-preserved g c =
    subst (AllZip (IsOfPiece c.args.view.now) (take (c.loop-piece.piece-index + 1) c.args.pieces.now))
    (sym c.in_ok-push.ensures.ok)
    (AllZip_next (IsOfPiece c.args.view.now) c.args.pieces.now c.loop-piece.texts
    c.loop-piece.piece-index c.piece-item.result c.in_ok-text_of.field-0
    c.loop-piece-test.true c.piece-item.is c.loop-piece.invariant c.in_ok-text_of.ensures)

pub text_of-requires : goal.text_of-requires
text_of-requires g c =
    let view = c.args.view.now in
    has_text view c.as_slice.result.now c.as_slice-in-loop-piece.result.now c.args.pieces.now c.loop-piece.piece-index
    c.piece-item.result
    (λ asked. subst (IsHeadsText view.rows) (sym c.as_slice.ensures) (c.in_ok-heads.ensures asked))
    (λ asked. subst (IsBranchMap view.rows view.markers view.phases) (sym c.as_slice-in-loop-piece.ensures)
    (c.in_ok-branches.ensures asked))
    c.loop-piece-test.true c.piece-item.is
