use Rattle.std.proofs.Common.{◌∙◌, ap}
use Rattle.hg_wireproto.specs.code.Spellings.{spelled}
use Rattle.hg_wireproto.proofs.Fields.{field_cut}
use Rattle.hg_wireproto.proofs.form.read_field.Goals as goal

pub returns : goal.returns
returns g c =
    field_cut (spelled c.args.spelling) c.args.piece.now c.split_once.result.0.now c.split_once.result.1 c.as_slice.result
    c.in_ok-name.name c.in_ok-value.value c.split_once.ensures.before c.split_once.ensures.behind
    c.as_slice.ensures c.in_ok-name.ensures
    (c.in_ok-value.ensures ∙ ap (λ text. spelled c.args.spelling text.now) c.unwrap_or.ensures)
