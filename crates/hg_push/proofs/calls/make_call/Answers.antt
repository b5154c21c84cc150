use Rattle.hg_push.specs.Run.{run_push}
use Rattle.hg_push.proofs.Calling.{reply_follows, reply_right}
use Rattle.hg_push.proofs.calls.make_call.Goals as goal

pub returns-in-TakeReply-clause-right : goal.returns-in-TakeReply-clause-right
returns-in-TakeReply-clause-right g c = λ first course follows.
    rw c.in-TakeReply.is (reply_right run_push first course c.args.book.now c.in-TakeReply.push
    c.take_reply.result follows c.take_reply.ensures.reply
    (c.take_reply.ensures.answer first course.history follows.holds))

pub returns-in-TakeReply-clause-follows : goal.returns-in-TakeReply-clause-follows
returns-in-TakeReply-clause-follows g c = λ first course follows.
    rw c.in-TakeReply.is (reply_follows run_push first course c.args.book.now c.take_reply.new.self
    c.in-TakeReply.push c.take_reply.result follows c.take_reply.ensures.none c.take_reply.ensures.some
    (c.take_reply.ensures.holds first course.history follows.holds))
