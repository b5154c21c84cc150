use Rattle.std.proofs.Common.{◌∙◌}
use Rattle.hg_connection.proofs.Receivings.{fresh}
use Rattle.hg_commit_tests.proofs.Handing.{grown, handed, within}
use Rattle.hg_commit_tests.proofs.tests.push_part.Goals as goal

pub receive_kept-ending-requires-clause-bundle : goal.receive_kept-ending-requires-clause-bundle
receive_kept-ending-requires-clause-bundle g c =
    fresh c.streams_are_settled_once.ensures c.args.server.now c.new-bundle.result c.new-bundle.ensures.empty
    c.new-bundle.ensures.state (c.new-bundle.ensures.limits ∙ c.limits.ensures.value)

pub keep-client-requires-clause-record : goal.keep-client-requires-clause-record
keep-client-requires-clause-record g c =
    handed c.args.server.now g.J.Naming.capacity g.J.Naming.first _ _ _ _ _ c.receive_kept-ending.new.sender
    c.receive_kept-ending.result _ c.mark-ended.result c.answer_resting-answer.result.0.takes
    c.answer_resting-answer.result.2 c.answer_resting-answer.result.1 c.receive_kept-ending.ensures.received
    c.mark-ended.ensures c.limits.ensures.first c.of-client.result _ c.of-client.ensures
    c.answer_resting-answer.result.0.outcome c.record_of-record.result c.record_of-record.ensures.done
    c.record_of-record.ensures.aborted c.answer_resting-answer.ensures.answers c.answer_resting-answer.ensures.rests

pub returns-clause-grows : goal.returns-clause-grows
returns-clause-grows g c =
    grown c.args.client c.answer_resting-answer.result.2 _ c.of-client.result c.keep-client.result.0
    c.of-client.ensures c.into_parts-client.ensures.1 c.keep-client.ensures.grows

pub returns-clause-rests : goal.returns-clause-rests
returns-clause-rests g c =
    within g.J.Naming.first c.answer_resting-answer.result.2 _ c.of-client.result c.keep-client.result.0
    c.answer_resting-answer.result.1 c.of-client.ensures c.keep-client.ensures.same
    (c.journals_grow.ensures.rests _ _ _ _ _ c.answer_resting-answer.ensures.rests)
