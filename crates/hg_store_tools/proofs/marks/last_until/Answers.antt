use Rattle.std.proofs.Common.{◌-◌, arith}
use Rattle.hg_store_tools.proofs.Walks.{split_at}
use Rattle.hg_store_tools.proofs.marks.last_until.Goals as goal

pub returns-then-mark-until-clause-among : goal.returns-then-mark-until-clause-among
returns-then-mark-until-clause-among c =
    split_at c.args.marks.now (c.loop-at.at - 1) _ (omega (arith, c.loop-at-test.true, c.loop-at.auto.at))
