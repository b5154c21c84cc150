use Rattle.std.proofs.Common.{◌∙◌, ◌<◌, arith}
use Rattle.hg_obs.proofs.Base85Tables.{value_at, value_small}
use Rattle.hg_obs.proofs.base85.value.Goals as goal

pub returns-clause-value : goal.returns-clause-value
returns-clause-value c = let less : c.args.byte < 256 = omega arith in c.from.ensures
    ∙ value_at c.args.byte less

pub returns-clause-small : goal.returns-clause-small
returns-clause-small c =
    let less : c.args.byte < 256 = omega arith in
    let same = c.from.ensures ∙ value_at c.args.byte less in
    let small = value_small c.args.byte in
    omega arith
