use Rattle.std.proofs.Common.{map}
use Rattle.hg_replay.proofs.Replays.{PlaysOn}
use Rattle.hg_replay.proofs.replay.replay_each.Given as goal

abbrev pub invariant-loop-reader : goal.invariant-loop-reader
invariant-loop-reader g l =
    PlaysOn (map (λ r. g.R.Reader.told r) l.fn.readers)
    (map (λ r. g.R.Reader.told r) l.readers) l.reader-index l.fn.book l.book l.status
