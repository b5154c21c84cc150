use Rattle.hg_wireproto_tests.proofs.Watching.{answered_on, fits_on}
use Rattle.hg_wireproto_tests.proofs.watched.add.Goals as goal

pub returns-clause-more : goal.returns-clause-more
returns-clause-more g c =
    answered_on c.args.log.now c.add-answer.new.self c.args.entry.now c.add-answer.result c.add-answer.ensures.leaves
    c.add-answer.ensures.err

pub returns-clause-fits : goal.returns-clause-fits
returns-clause-fits g c =
    fits_on c.args.log.now.rows c.add-answer.new.self.rows c.args.phases.now.current c.len-_rows.ensures.lawful
    (answered_on c.args.log.now c.add-answer.new.self c.args.entry.now c.add-answer.result
    c.add-answer.ensures.leaves c.add-answer.ensures.err) c.requires
