use Rattle.hg_params.proofs.Growing.{on_err, grown_same, grown_more}
use Rattle.hg_params.proofs.write.append_texts.Goals as goal

pub returns-in_err-extend_from_slice-clause-err : goal.returns-in_err-extend_from_slice-clause-err
returns-in_err-extend_from_slice-clause-err g c =
    on_err c.from_residual.result _
    (grown_same _ c.loop-param.out.items _
    (_, c.loop-param.invariant) c.in_err-extend_from_slice.ensures.items)

pub returns-in_err-extend_from_slice-2-clause-err : goal.returns-in_err-extend_from_slice-2-clause-err
returns-in_err-extend_from_slice-2-clause-err g c =
    on_err c.from_residual-in_err-extend_from_slice-2.result _
    (grown_same _ c.extend_from_slice.new.self.items _
    (grown_more _ c.loop-param.out.items _ _
    (_, c.loop-param.invariant) c.in_ok-extend_from_slice.ensures.items)
    c.in_err-extend_from_slice-2.ensures.items)
