use Rattle.std.proofs.Common.{◌∙◌, ap}
use Rattle.std.specs.Prelude.{ℕ, ◌==◌}
use Rattle.std.specs.List.{flat_map, slice_split}
use Rattle.hg_wireproto.specs.Form.{fields_by}
use Rattle.hg_wireproto.specs.code.Spellings.{spelled}
use Rattle.hg_wireproto.proofs.Pieces.{all_pieces, piece_more}
use Rattle.hg_wireproto.proofs.form.read_fields.Goals as goal

pub returns : goal.returns
returns g c =
    all_pieces (fields_by (spelled c.args.spelling)) c.deref-piece-items.result.now c.in_ok-pieces.pieces.items
    c.loop-piece.piece-index _ c.loop-piece.fields c.loop-piece-test.false c.deref-piece-items.ensures.value
    c.in_ok-pieces.ensures c.loop-piece.invariant
    ∙ ap (λ (byte : ℕ). flat_map (fields_by (spelled c.args.spelling)) (slice_split (λ b. b == byte) c.args.text.now))
    c.separator.ensures

pub loop-piece-preserved : goal.loop-piece-preserved
loop-piece-preserved g c =
    piece_more (fields_by (spelled c.args.spelling)) c.deref-piece-items.result.now c.loop-piece.piece-index _
    c.loop-piece.fields c.push_field.new.fields c.loop-piece-test.true c.loop-piece.invariant
    c.in_ok-push_field.ensures
