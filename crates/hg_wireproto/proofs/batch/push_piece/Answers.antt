use Rattle.std.proofs.Common.{◌∙◌, ◌++◌, List, ℕ, ap, sym}
use Rattle.hg_wireproto.proofs.Escapes.{none_escaped}
use Rattle.hg_wireproto.proofs.batch.push_piece.Goals as goal

pub returns : goal.returns
returns g c =
    c.in_ok-extend_from_slice.ensures.items
    ∙ ap (λ (bytes : List ℕ). c.args.text.now.items ++ bytes)
    (c.as_slice-2.ensures ∙ sym (none_escaped c.args.piece.now (sym c.has_escape.ensures ∙ c.if-has_escape.false)))
