use Rattle.hg_stream.specs.Unbundler.{ready_of}
use Rattle.hg_replay.proofs.Items.{whole_push, ends_so, has_reply}
use Rattle.hg_replay.proofs.push.end_push.Goals as goal

pub returns-clause-leaves : goal.returns-clause-leaves
returns-clause-leaves g c = λ first before begun.
    let closed = whole_push c.closed_pushes_have_ended.ensures first before c.args.push
    c.step_parts-index.new.book c.step.new.self
    (ready_of c.args.bundle.now) c.args.ending c.step_parts-index.result c.mark_of-what.result
    c.step.result
    c.step_parts-index.ensures.count c.mark_of-what.ensures
    (record { pushes = c.step.ensures.pushes; holds = c.step.ensures.holds })
    (c.step_parts-index.ensures.taken first before begun) in
    ends_so first before c.args.push c.step.new.self c.take_reply.new.self _ c.take_reply.result
    c.in-Some.outcome c.in-Some.is
    (record {
      answer = c.take_reply.ensures.answer;
      told = c.take_reply.ensures.told;
      some = c.take_reply.ensures.some;
      holds = c.take_reply.ensures.holds;
    }) closed

pub unreachable-requires : goal.unreachable-requires
unreachable-requires g c =
    let first = c.requires.taken.0 in
    let before = c.requires.taken.1 in
    let closed = whole_push c.closed_pushes_have_ended.ensures first before c.args.push
    c.step_parts-index.new.book c.step.new.self
    (ready_of c.args.bundle.now) c.args.ending c.step_parts-index.result c.mark_of-what.result
    c.step.result
    c.step_parts-index.ensures.count c.mark_of-what.ensures
    (record { pushes = c.step.ensures.pushes; holds = c.step.ensures.holds })
    (c.step_parts-index.ensures.taken first before c.requires.taken.2) in
    has_reply first before c.args.push c.step.new.self _ c.take_reply.result c.in-None.is
    c.take_reply.ensures.answer closed
