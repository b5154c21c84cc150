use Rattle.std.proofs.Common.{◌≡◌, length, refl, arith}
use Rattle.hg_repo.proofs.SameItems.{same_at}
use Rattle.hg_repo.proofs.same.are_same_rows.Goals as goal

pub returns : goal.returns
returns g c =
    let all : length c.args.log.now.rows ≡ c.loop-rev.rev = omega
    (arith, c.len-rev-end.ensures.len, c.loop-rev-test.false, c.loop-rev.auto.rev-end) in (
      (λ _. same_at c.args.log.now.rows c.args.other.now.rows
          (omega (arith, c.if-len.false, c.len.ensures.len, c.len-2.ensures.len))
          (λ k low. c.loop-rev.invariant k (omega (arith, all, low)))),
      (λ _. refl),
    )
