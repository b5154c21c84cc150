use Rattle.hg_push.specs.Run.{run_push}
use Rattle.hg_push.proofs.Staging.{part_taken}
use Rattle.hg_push.proofs.step.stage.Goals as goal

pub returns-in-Ok-clause-steps : goal.returns-in-Ok-clause-steps
returns-in-Ok-clause-steps g c =
    λ old. part_taken run_push old c.args.row.now c.add.new.row c.args.index c.args.part c.in-Ok.prepared
    c.add.result c.add.ensures.push c.in-Ok.ensures c.add.ensures.ok c.add.ensures.err
