use Rattle.std.proofs.Common.{◌∙◌}
use Rattle.hg_connection.proofs.Receivings.{fresh}
use Rattle.hg_connection_tests.proofs.tests.steps.receives.Goals as goal

pub receive_kept-ending-requires-clause-bundle : goal.receive_kept-ending-requires-clause-bundle
receive_kept-ending-requires-clause-bundle g c =
    fresh c.streams_are_settled_once.ensures _ c.new-bundle.result c.new-bundle.ensures.empty
    c.new-bundle.ensures.state (c.new-bundle.ensures.limits ∙ c.limits.ensures.value)
