use Rattle.hg_stream.proofs.Levels.{reads_payload}
use Rattle.hg_stream.proofs.payloads.Payloads.feed.Goals as goal

pub returns-in-Part-clause-reads : goal.returns-in-Part-clause-reads
returns-in-Part-clause-reads g c = rw c.in-Part.is
    (reads_payload _ _ c.args.piece.now c.feed.result c.feed.ensures.count c.feed.ensures.some
    c.feed.ensures.ok c.feed.ensures.err c.feed.ensures.phase c.feed.ensures.broken
    c.feed.ensures.still_broken c.feed.ensures.limit)

pub returns-in-Interrupting-clause-reads : goal.returns-in-Interrupting-clause-reads
returns-in-Interrupting-clause-reads g c = rw c.in-Interrupting.is
    (reads_payload _ _ c.args.piece.now c.feed-in-Interrupting.result c.feed-in-Interrupting.ensures.count
    c.feed-in-Interrupting.ensures.some
    c.feed-in-Interrupting.ensures.ok c.feed-in-Interrupting.ensures.err c.feed-in-Interrupting.ensures.phase
    c.feed-in-Interrupting.ensures.broken
    c.feed-in-Interrupting.ensures.still_broken c.feed-in-Interrupting.ensures.limit)
