use Rattle.std.proofs.Common.{◌≡◌, ◌∙◌, ◌+◌, ◌-◌, ◌++◌, ◌≤◌, ap, sym, arith}
use Rattle.std.specs.Option.{option_copied}
use Rattle.hg_http.specs.Requests.{most_pieces, pieces_from}
use Rattle.hg_http.proofs.Pieces.{with_piece, without_piece, no_more}
use Rattle.hg_http.proofs.request.push_pieces.Goals as goal

pub returns-in-None : goal.returns-in-None
returns-in-None g c =
    without_piece c.args.headers.now c.pieces.place c.pieces.form.items c.pieces-test.true
    (sym c.in_ok-value.ensures ∙ ap option_copied c.in-None.is)
    ∙ c.pieces.invariant

pub pieces-preserved : goal.pieces-preserved
pieces-preserved g c =
    ap (λ l. l ++ pieces_from c.args.headers.now (c.pieces.place + 1 + 1) (most_pieces - (c.pieces.place + 1)))
    (c.in_ok-extend_from_slice-in-Some.ensures.items
    ∙ ap (λ l. c.pieces.form.items ++ l) c.as_bytes.ensures.value)
    ∙ (with_piece c.args.headers.now c.pieces.place c.pieces.form.items c.in-Some.value.now c.pieces-test.true
    (sym c.in_ok-value.ensures ∙ ap option_copied c.in-Some.is)
    ∙ c.pieces.invariant)

pub returns : goal.returns
returns g c =
    no_more c.args.headers.now c.pieces.place c.pieces.form.items (omega (arith, c.pieces-test.false))
    ∙ c.pieces.invariant
