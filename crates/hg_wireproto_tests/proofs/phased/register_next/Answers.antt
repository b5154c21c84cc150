use Rattle.hg_log.specs.Parents.{parents_of}
use Rattle.hg_phases.specs.Phases.{registered}
use Rattle.hg_wireproto.proofs.Publishing.{stay_registered, stay_same}
use Rattle.hg_wireproto_tests.proofs.Watching.{stay_after}
use Rattle.hg_wireproto_tests.proofs.phased.register_next.Goals as goal

pub returns-clause-stay : goal.returns-clause-stay
returns-clause-stay g c =
    stay_after c.args.phases.now c.register.new.self c.register.result _
    (stay_registered (parents_of c.args.log.now.rows) c.args.phase c.args.phases.now.current.phases)
    c.register.ensures.ok c.register.ensures.err

pub returns-then-clause-stay : goal.returns-then-clause-stay
returns-then-clause-stay g c = stay_same c.args.phases.now.current.phases
