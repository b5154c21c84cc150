use Rattle.std.proofs.Common.{refl}
use Rattle.hg_connection.proofs.Exchanges.{serves}
use Rattle.hg_connection.proofs.connection.serve_bundle.Goals as goal

pub returns-clause-served : goal.returns-clause-served
returns-clause-served g c =
    let r = c.receive-ending.ensures.received in
    let m = c.mark-ended.ensures in
    let a = c.answer-answer.ensures in
    let w = c.send_reply-sending.ensures in (
      record {
        reads = r.bundle.reads;
        consumed = r.bundle.consumed;
        rest = r.bundle.rest;
        ending = c.receive-ending.result;
        parts = r.parts;
        push = c.args.sender.putter.push;
        how = c.answer-answer.result.0.outcome;
        takes = c.answer-answer.result.0.takes;
        uses = w.uses;
        sending = c.send_reply-sending.result.0;
        gone = w.gone;
        after = c.answer-answer.result.1;
      },
      serves c.args.server.now g.J.Naming.capacity g.J.Naming.first c.args.inbox.now
          c.receive-ending.new.inbox _ _ _ _ c.args.sender c.receive-ending.new.sender c.receive-ending.result
          c.mark-ended.result _ _ c.answer-answer.result.1 _ _ r m a w c.requires.sender.1
          c.replies_are_short.ensures.done c.replies_are_short.ensures.aborted c.parts_are_few.ensures
          c.limits-limits.ensures.allowed,
      record {
        ending_is = refl;
        how_is = refl;
        takes_are = refl;
        sending_is = refl;
        written_is = w.count_is;
        after_is = refl;
      },
    )
