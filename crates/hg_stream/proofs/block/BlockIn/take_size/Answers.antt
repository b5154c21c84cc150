use Rattle.std.proofs.Common.{◌+◌, ◌++◌, take, refl, arith}
use Rattle.std.proofs.lemmas.List.{append-nil}
use Rattle.std.proofs.lemmas.Result.{err_from_is_err_and}
use Rattle.hg_stream.proofs.Sizes.{taken_more}
use Rattle.hg_stream.proofs.block.BlockIn.take_size.Goals as goal

pub loop-taken-init : goal.loop-taken-init
loop-taken-init g c = record {
  within = omega arith;
  most = refl;
  awaits = c.requires.awaits;
  took = λ rest h. rw append-nil h;
}

pub returns-in_err-step-clause-err : goal.returns-in_err-step-clause-err
returns-in_err-step-clause-err g c =
    let p = err_from_is_err_and c.from_residual.result c.from_residual.ensures.1 in
    rw (p.1, p.2) (
      c.loop-taken.taken + 1,
      omega (arith, c.loop-taken-test.true),
      λ rest h. rw (
        ← taken_more rest c.args.piece.now c.loop-taken.taken c.loop-taken-test.true,
        ← c.loop-taken.invariant.most,
      )
          (c.in_err-step.ensures.err (rest ++ take c.loop-taken.taken c.args.piece.now)
          (c.loop-taken.invariant.took rest h)),
    )
