use Rattle.std.proofs.Common.{◌∙◌, ap}
use Rattle.hg_wireproto.specs.Batch.{arguments_of}
use Rattle.hg_wireproto.proofs.Fields.{command_cut}
use Rattle.hg_wireproto.proofs.batch.read_command.Goals as goal

pub returns : goal.returns
unfolding arguments_of
returns g c =
    command_cut c.args.piece.now c.split_once.result.0.now c.split_once.result.1 c.as_slice.result
    c.in_ok-name.name c.in_ok-arguments.arguments c.split_once.ensures.before c.split_once.ensures.behind
    c.as_slice.ensures c.in_ok-name.ensures
    (c.in_ok-arguments.ensures ∙ ap (λ text. arguments_of text.now) c.unwrap_or-arguments.ensures)
