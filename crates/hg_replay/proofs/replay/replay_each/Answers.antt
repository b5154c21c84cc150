use Rattle.std.proofs.Common.{arith, subst, sym}
use Rattle.hg_replay.specs.Replaying.{PlaysOne}
use Rattle.hg_replay.proofs.Replays.{reader_played}
use Rattle.hg_replay.proofs.replay.replay_each.Goals as goal

pub loop-reader-preserved : goal.loop-reader-preserved
loop-reader-preserved g c =
    let played = subst (λ (r : g.row.R.Denot). PlaysOne (g.R.Reader.told r)
    (g.R.Reader.told c.replay_next.new.reader)
    c.loop-reader.book c.replay_next.new.book c.replay_next.result)
    (sym c.reader-item.is) c.replay_next.ensures in
    reader_played (λ r. g.R.Reader.told r) _ c.loop-reader.readers c.loop-reader.reader-index
    c.reader-item.result c.replay_next.new.reader c.args.book.now c.loop-reader.book
    c.replay_next.new.book c.loop-reader.status c.replay_next.result
    c.first_told-status.result (omega (arith, c.loop-reader-test.true, c.loop-reader.auto.readers))
    c.reader-item.is c.loop-reader.invariant played c.first_told-status.ensures
