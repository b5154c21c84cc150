use Rattle.std.proofs.Common.{sym, arith}
use Rattle.hg_phases.proofs.Counting.{counts_push, few_in}
use Rattle.hg_phases.proofs.counts.CountedRows.push.Goals as goal

pub add-requires : goal.add-requires
add-requires g c =
    let rows = c.self.inside.rows in
    let held = rows.ok in
    rw c.self.invariant (omega (arith, few_in c.phase.result rows.items, held, rows.small))

pub invariant_of-self-2 : goal.invariant_of-self-2
invariant_of-self-2 g c =
    rw (c.add.ensures, c.phase.ensures, c.self.invariant, c.in_ok-push.ensures.items)
    (sym (counts_push c.self.inside.rows.items c.args.standing))
