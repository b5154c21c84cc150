use Rattle.hg_wireproto.proofs.Lines.{lines_on}
use Rattle.hg_wireproto.proofs.listkeys.push_phases.Goals as goal

pub returns : goal.returns
returns g c =
    lines_on c.args.lines.now.items c.push_drafts.new.lines.items c.push_publishing.new.lines.items _ _
    c.in_ok-push_drafts.ensures c.in_ok-push_publishing.ensures
