use Rattle.std.proofs.Common.{inl, []}
use Rattle.hg_replay.specs.Answering.{empty_repository}
use Rattle.hg_replay.proofs.Answered.{answers, begins_empty}
use Rattle.hg_replay.proofs.Shortness.{reply_short}
use Rattle.hg_replay.proofs.run.run_one.Goals as goal

pub take_push-requires : goal.take_push-requires
take_push-requires g c = record {
  idle = (
    empty_repository c.args.publishing,
    [],
    (begins_empty c.args.publishing c.empty_repository.result c.new-book.result c.empty_repository.ensures
        c.new-book.ensures.numbers c.new-book.ensures.rows c.new-book.ensures.holds).1,
  );
}

pub send_reply-sending-requires : goal.send_reply-sending-requires
send_reply-sending-requires g c =
    let begun = begins_empty c.args.publishing c.empty_repository.result c.new-book.result
    c.empty_repository.ensures c.new-book.ensures.numbers c.new-book.ensures.rows
    c.new-book.ensures.holds in
    (c.in-Some.ensures.some.leaves (empty_repository c.args.publishing) [] begun.1).ends.told

pub returns : goal.returns
returns g c =
    let begun = begins_empty c.args.publishing c.empty_repository.result c.new-book.result
    c.empty_repository.ensures c.new-book.ensures.numbers c.new-book.ensures.rows
    c.new-book.ensures.holds in
    let taken = c.in-Some.ensures.some in
    let first = empty_repository c.args.publishing in
    let short = reply_short c.replies_are_short.ensures.done c.replies_are_short.ensures.aborted
    c.parts_are_few.ensures first _ _ _ c.in-Some.ending taken.parts c.in-Some.outcome taken.received
    (taken.leaves first [] begun.1).ends in
    inl (answers c.args.publishing _ _ _ _ c.status_of.result c.new-book.result c.take_push.new.book
    c.in-Some.ending c.in-Some.outcome c.send_reply-sending.result.0 begun.0 begun.1 taken short
    (c.send_reply-sending.result.1, c.send_reply-sending.ensures) c.status_of.ensures)
