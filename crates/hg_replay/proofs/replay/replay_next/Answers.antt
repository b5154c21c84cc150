use Rattle.hg_replay.proofs.Replays.{played}
use Rattle.hg_replay.proofs.replay.replay_next.Goals as goal

pub returns-in-Some : goal.returns-in-Some
returns-in-Some g c = played _ _ c.args.book.now c.take_push.new.book c.in-Some.ending c.in-Some.outcome
    c.status_of.result c.in-Some.ensures.some c.status_of.ensures
