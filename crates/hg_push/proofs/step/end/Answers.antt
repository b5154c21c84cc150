use Rattle.std.proofs.Common.{◌<◌, ◌^◌, length, arith}
use Rattle.std.proofs.lemmas.Bool.Decides.{nat_tests}
use Rattle.hg_push.proofs.Staging.{can_be_sent}
use Rattle.hg_push.proofs.step.end.Goals as goal

pub returns-in-Ok-clause-sent : goal.returns-in-Ok-clause-sent
returns-in-Ok-clause-sent g c =
    let few : length c.args.staged < 2 ^ 32 = grind (
      arith,
      nat_tests,
      c.ranges.index.fits,
      c.if-index-len.false,
      c.len.ensures,
    ) in
    can_be_sent (length c.args.staged) c.in-Ok.done.replies c.in-Ok.ensures.replies few
