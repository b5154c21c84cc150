use Rattle.hg_store_tools.proofs.Indexes.{marks_all, marks_more}
use Rattle.hg_store_tools.proofs.index.read_marks.Goals as goal

pub loop-behind-preserved : goal.loop-behind-preserved
loop-behind-preserved g c =
    marks_more c.args.body.now c.loop-behind.marks.items c.push.new.self.items c.loop-behind.behind.now
    c.read_mark.result.1.now c.read_mark.result.0 c.loop-behind.invariant.0 c.loop-behind.invariant.1
    c.read_mark.ensures.spelled c.read_mark.ensures.length c.in_ok-push.ensures.items

pub returns : goal.returns
returns g c =
    marks_all c.args.body.now c.loop-behind.marks.items c.loop-behind.behind.now c.loop-behind.invariant.0
    c.loop-behind.invariant.1 c.loop-behind-test.false
