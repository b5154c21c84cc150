use Rattle.std.proofs.Common.{◌∙◌}
use Rattle.hg_wireproto.specs.ListKeys.{listkeys_text}
use Rattle.hg_wireproto.proofs.Lines.{lines_joined}
use Rattle.hg_wireproto.proofs.listkeys.listkeys_text.Goals as goal

pub returns : goal.returns
unfolding listkeys_text
returns g c =
    c.joined.ensures ∙ lines_joined c.new-lines.result.items c.push_lines.new.lines.items _
    c.new-lines.ensures.items c.in_ok-push_lines.ensures
