use Rattle.std.proofs.Common.{◌∙◌, sym}
use Rattle.hg_wireproto.specs.Heads.{known_digit}
use Rattle.hg_wireproto.proofs.Pieces.{mapped_all, mapped_more}
use Rattle.hg_wireproto.proofs.Lines.{known_none, known_some}
use Rattle.hg_wireproto.proofs.heads.known_text.Goals as goal

pub returns-then-is_empty : goal.returns-then-is_empty
returns-then-is_empty g c =
    c.new-text.ensures ∙ known_none c.args.log.now.rows c.args.nodes.now
    (sym c.is_empty.ensures ∙ c.if-is_empty.true)

pub returns : goal.returns
returns g c =
    mapped_all (known_digit c.args.log.now.rows) c.deref-piece-items.result.now c.in_ok-pieces.pieces.items
    c.loop-piece.piece-index _ c.loop-piece.text c.loop-piece-test.false c.deref-piece-items.ensures.value
    c.in_ok-pieces.ensures c.loop-piece.invariant
    ∙ known_some c.args.log.now.rows c.args.nodes.now (sym c.is_empty.ensures ∙ c.if-is_empty.false)

pub loop-piece-preserved : goal.loop-piece-preserved
loop-piece-preserved g c =
    mapped_more (known_digit c.args.log.now.rows) c.deref-piece-items.result.now c.loop-piece.piece-index _
    c.loop-piece.text c.push.new.self _ c.loop-piece-test.true c.loop-piece.invariant c.in_ok-push.ensures.ok
    c.known_digit.ensures
