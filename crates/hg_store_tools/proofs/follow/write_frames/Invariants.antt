use Rattle.hg_store_tools.proofs.Followings.{HasSent}
use Rattle.hg_store_tools.proofs.follow.write_frames.Given as goal

abbrev pub invariant-loop-entry : goal.invariant-loop-entry
invariant-loop-entry g l =
    HasSent g.row.A.Denot l.log l.place l.records l.entry-index l.next (g.W.Writer.told l.fn.writer).taken
    (g.W.Writer.told l.writer).taken
