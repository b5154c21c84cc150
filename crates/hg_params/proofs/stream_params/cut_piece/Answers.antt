use Rattle.std.proofs.Common.{◌∙◌, ap, sym, None}
use Rattle.std.specs.Option.{option_map}
use Rattle.percent_encoding.specs.Percent.{percent_decode}
use Rattle.hg_params.proofs.Pieces.{name_cut, no_value, value_cut, param_cut}
use Rattle.hg_params.proofs.stream_params.cut_piece.Goals as goal

pub returns-in-None : goal.returns-in-None
returns-in-None g c =
    let piece = c.args.piece.now in
    param_cut piece _ None (name_cut piece _ _ c.split_once.ensures.before c.in_ok-name.ensures)
    (no_value piece (sym (ap (option_map (λ text. text.now)) c.in-None.is) ∙ c.split_once.ensures.behind))

pub returns-in_ok-value-in-Some : goal.returns-in_ok-value-in-Some
returns-in_ok-value-in-Some g c =
    let piece = c.args.piece.now in
    param_cut piece _ _ (name_cut piece _ _ c.split_once.ensures.before c.in_ok-name.ensures)
    (value_cut piece c.in-Some.text.now _ (sym (ap (option_map (λ text. text.now)) c.in-Some.is)
    ∙ c.split_once.ensures.behind) (c.in_ok-value-in-Some.ensures
    ∙ ap (λ text. percent_decode text.now) c.in-Some.text-is))
