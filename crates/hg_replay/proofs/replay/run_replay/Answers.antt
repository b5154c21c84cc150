use Rattle.std.proofs.Common.{[]}
use Rattle.hg_replay.specs.Answering.{empty_repository}
use Rattle.hg_replay.proofs.Answered.{begins_empty}
use Rattle.hg_replay.proofs.Replays.{replays}
use Rattle.hg_replay.proofs.replay.run_replay.Goals as goal

pub replay_each-status-requires : goal.replay_each-status-requires
replay_each-status-requires g c = record {
  idle = (
    empty_repository c.args.publishing,
    [],
    (begins_empty c.args.publishing c.empty_repository.result c.new-book.result c.empty_repository.ensures
        c.new-book.ensures.numbers c.new-book.ensures.rows c.new-book.ensures.holds).1,
  );
}

pub returns : goal.returns
returns g c =
    let begun = begins_empty c.args.publishing c.empty_repository.result c.new-book.result
    c.empty_repository.ensures c.new-book.ensures.numbers c.new-book.ensures.rows
    c.new-book.ensures.holds in
    replays c.args.publishing _ _ _ _ c.new-book.result c.replay_each-status.new.book c.repo.result.now
    c.replay_each-status.result c.sending_status.result c.first_told.result c.send_report-sending.result
    begun.0
    (c.replay_each-status.ensures (empty_repository c.args.publishing) [] begun.1) c.repo.ensures
    c.send_report-sending.ensures c.sending_status.ensures c.first_told.ensures
