use Rattle.hg_repo.specs.Report.{journal_line}
use Rattle.hg_repo.proofs.Lines.{number_more}
use Rattle.hg_repo.proofs.report.add_journal_lines.Goals as goal

pub loop-number-preserved : goal.loop-number-preserved
loop-number-preserved g c =
    number_more journal_line c.args.text.now.items c.loop-number.text.items c.add_journal_line.new.text.items
    c.loop-number.number c.loop-number.invariant c.in_ok-add_journal_line.ensures.ok
