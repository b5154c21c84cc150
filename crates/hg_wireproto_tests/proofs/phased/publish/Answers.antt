use Rattle.hg_log.specs.Parents.{parents_of}
use Rattle.hg_wireproto.proofs.Publishing.{stay_advanced, stay_same}
use Rattle.hg_wireproto_tests.proofs.Watching.{stay_after}
use Rattle.hg_wireproto_tests.proofs.phased.publish.Goals as goal

pub returns-clause-stay : goal.returns-clause-stay
returns-clause-stay g c =
    stay_after c.args.phases.now c.advance.new.self c.advance.result _
    (stay_advanced (parents_of c.args.log.now.rows) _ _ c.args.phases.now.current.phases)
    c.advance.ensures.ok c.advance.ensures.err
