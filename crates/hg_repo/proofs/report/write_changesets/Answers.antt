use Rattle.std.specs.String.{string_bytes}
use Rattle.hg_repo.specs.Report.{changeset_line}
use Rattle.hg_repo.proofs.Lines.{number_more}
use Rattle.hg_repo.proofs.report.write_changesets.Goals as goal

pub loop-rev-preserved : goal.loop-rev-preserved
loop-rev-preserved g c =
    let before = string_bytes c.args.text.now in
    let now = string_bytes c.loop-rev.text in
    let next = string_bytes c.write_changeset.new.text in
    number_more (changeset_line c.args.repo.now) before now next c.loop-rev.rev
    c.loop-rev.invariant c.in_ok-write_changeset.ensures
