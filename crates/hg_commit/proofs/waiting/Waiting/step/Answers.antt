use Rattle.std.proofs.Common.{arith, ap}
use Rattle.hg_commit.proofs.Beats.{written_less}
use Rattle.hg_commit.proofs.waiting.Waiting.step.Goals as goal

pub returns-then-awaited-self-clause-written : goal.returns-then-awaited-self-clause-written
returns-then-awaited-self-clause-written g c =
    let late = ap (λ v. v.ended) c.self.view_is in
    written_less _ c.args.rests _ c.args.awaited (omega (arith, late)) c.grant.ensures.written
