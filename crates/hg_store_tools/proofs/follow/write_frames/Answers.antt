use Rattle.hg_store_tools.proofs.Followings.{sending_ends, sending_more, sending_stops}
use Rattle.hg_store_tools.proofs.follow.write_frames.Goals as goal

pub returns-in-Err-clause-err : goal.returns-in-Err-clause-err
returns-in-Err-clause-err g c =
    sending_stops g.row.A.Denot c.args.log.now c.args.place c.args.records.now c.loop-entry.entry-index c.loop-entry.next
    c.entry-item.result (g.W.Writer.told c.args.writer.now).taken (g.W.Writer.told c.loop-entry.writer).taken
    c.loop-entry-test.true c.entry-item.is c.loop-entry.invariant c.in-Err.fault
    (g.W.Writer.told c.write_frame.new.writer).taken c.in-Err.ensures.err

pub returns-then-next-clause-err : goal.returns-then-next-clause-err
returns-then-next-clause-err g c =
    sending_ends g.row.A.Denot c.args.log.now c.args.place c.args.records.now c.loop-entry.entry-index c.loop-entry.next
    c.entry-item.result (g.W.Writer.told c.args.writer.now).taken (g.W.Writer.told c.loop-entry.writer).taken
    c.loop-entry-test.true c.entry-item.is c.loop-entry.invariant (g.W.Writer.told c.write_frame.new.writer).taken
    c.in-Ok.ensures.ok

pub loop-entry-preserved : goal.loop-entry-preserved
loop-entry-preserved g c =
    sending_more g.row.A.Denot c.args.log.now c.args.place c.args.records.now c.loop-entry.entry-index c.loop-entry.next
    c.entry-item.result (g.W.Writer.told c.args.writer.now).taken (g.W.Writer.told c.loop-entry.writer).taken
    c.loop-entry-test.true c.entry-item.is c.loop-entry.invariant (g.W.Writer.told c.write_frame.new.writer).taken
    c.in-Ok.ensures.ok
