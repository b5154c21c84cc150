use Rattle.hg_params.proofs.Growing.{on_err, grown_same, grown_more}
use Rattle.hg_params.proofs.write.append_sizes.Goals as goal

pub returns-in_err-push-clause-err : goal.returns-in_err-push-clause-err
returns-in_err-push-clause-err g c =
    on_err c.from_residual.result _
    (grown_same _ c.loop-param.out.items _ (_, c.loop-param.invariant) c.in_err-push.ensures.items)

pub returns-in_err-push-2-clause-err : goal.returns-in_err-push-2-clause-err
returns-in_err-push-2-clause-err g c =
    on_err c.from_residual-in_err-push-2.result _
    (grown_same _ c.push.new.self.items _
    (grown_more _ c.loop-param.out.items _ _ (_, c.loop-param.invariant) c.in_ok-push.ensures.items)
    c.in_err-push-2.ensures.items)
