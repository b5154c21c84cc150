use Rattle.std.proofs.Common.{◌≡◌, ◌++◌, refl, arith}
use Rattle.hg_chunks.proofs.Steps.{data_waits, data_ends, data_refused}
use Rattle.hg_chunks.proofs.payload.PayloadIn.take_data.Goals as goal
use Rattle.hg_chunks.proofs.payload.PayloadIn.take_data.Goals.{then-more-eq0, else-more-eq0}

pub returns-then-is_err-clause-err : goal.returns-then-is_err-clause-err
returns-then-is_err-clause-err g c =
    λ whole rest h. data_refused c.args.self.now _ whole rest c.args.left c.requires.stage refl refl refl h

pub returns-clause-ok : goal.returns-clause-ok
returns-clause-ok g c = λ whole rest h.
    let got : c.extend_from_slice.new.self.items ≡ c.args.self.now.«data».items
    ++ c.args.bytes.now = rw c.if-is_err.ensures.negation at c.extend_from_slice.ensures.items in
    elim c.if-more-eq0.branch [
      | then-more-eq0 w ↦ data_ends c.args.self.now _ c.args.bytes.now whole rest c.args.left c.requires.stage
          w.self-is refl refl got (omega (arith, w.if-more-eq0.true)) h
      | else-more-eq0 w ↦ data_waits c.args.self.now _ c.args.bytes.now whole rest c.args.left _
          c.requires.stage w.self-is refl refl got (omega arith) h
    ]
