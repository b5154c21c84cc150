use Rattle.hg_store_tools.proofs.Cuts.{cuts_after_ok, cuts_before_ok}
use Rattle.hg_store_tools.proofs.cut.CuttingRecordVisitCutFiles.visit.Goals as goal

pub returns-then-place-self-clause-ok : goal.returns-then-place-self-clause-ok
returns-then-place-self-clause-ok g c =
    cuts_before_ok c.args.self.now.version c.args.self.now.at c.args.place c.args.entry.now c.args.target.now
    c.leave.new.self c.leave.result c.if-place-self.true c.leave.ensures.left c.leave.ensures.end

pub returns-clause-ok : goal.returns-clause-ok
returns-clause-ok g c =
    cuts_after_ok c.args.self.now.version c.args.self.now.at c.args.place c.args.entry.now c.args.target.now
    c.keep.new.self c.keep.result c.if-place-self.false c.keep.ensures.kept c.keep.ensures.end
