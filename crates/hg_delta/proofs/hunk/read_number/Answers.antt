use Rattle.std.proofs.Common.{arith, ◌∙◌, ap}
use Rattle.std.specs.Int.{w32, from_be_bytes}
use Rattle.hg_delta.proofs.Numbers.{number_is}
use Rattle.hg_delta.proofs.hunk.read_number.Goals as goal

pub returns-clause-number : goal.returns-clause-number
returns-clause-number c =
    let split = c.in_ok-number.ensures.cases in
    rw split.1 (number_is c.args.bytes.now c.from_be_bytes.result (λ i. omega (arith, c.type_inv.bytes i))
    (omega arith) (c.from_be_bytes.ensures ∙ ap (from_be_bytes w32) split.0))
