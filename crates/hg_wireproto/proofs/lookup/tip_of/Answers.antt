use Rattle.std.proofs.Common.{subst, arith, ℕ, ◌-◌}
use Rattle.hg_log.specs.Rows.{HasNode}
use Rattle.hg_wireproto.proofs.Naming.{tip_none, tip_at}
use Rattle.hg_wireproto.proofs.lookup.tip_of.Goals as goal

pub returns-then-len-eq0 : goal.returns-then-len-eq0
returns-then-len-eq0 g c = tip_none c.args.log.now.rows (omega (arith, c.len-len.ensures.len))

pub returns : goal.returns
returns g c =
    tip_at c.args.log.now.rows c.node.result (omega (arith, c.len-len.ensures.len))
    (subst (λ (n : ℕ). HasNode c.args.log.now.rows (n - 1) c.node.result.0) c.len-len.ensures.len c.node.ensures)
