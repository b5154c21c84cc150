use Rattle.std.proofs.Common.{arith}
use Rattle.hg_store.proofs.Staying.{kept_on}
use Rattle.hg_store.proofs.log.write_both.Goals as goal

pub returns-in_err-write_behind-2-clause-front : goal.returns-in_err-write_behind-2-clause-front
returns-in_err-write_behind-2-clause-front g c = λ front le here.
    let first = c.write_behind.ensures.front front le here in
    kept_on g.D.Device.moment g.D.Device.left_since g.D.Device.may_leave front _ _ _ first
    (c.write_behind-2.ensures.front front (omega (arith, le)) first.outcomes)

pub returns-clause-front : goal.returns-clause-front
returns-clause-front g c = λ front le here.
    let first = c.write_behind.ensures.front front le here in
    kept_on g.D.Device.moment g.D.Device.left_since g.D.Device.may_leave front _ _ _ first
    (c.write_behind-2.ensures.front front (omega (arith, le)) first.outcomes)
