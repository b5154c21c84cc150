use Rattle.std.proofs.Common.{ℕ, arith, subst}
use Rattle.hg_commit.specs.Clients.{Covers}
use Rattle.hg_commit.proofs.Covering.{covered_none}
use Rattle.hg_commit.proofs.ledger.Ledger.new.Goals as goal

pub new-requires-in-Ok-2-clause-kept : goal.new-requires-in-Ok-2-clause-kept
new-requires-in-Ok-2-clause-kept g c =
    let seen = g.D.Device.seen in
    let may_leave = g.D.Device.may_leave in
    let moment = g.D.Device.moment in
    let head = g.J.Storing.head in
    let stored = g.J.Storing.stored in
    let first = g.J.Naming.first in
    let disk = c.in-Ok.disk in
    let receipt = c.counted-counted.result in
    covered_none seen may_leave moment head stored first disk.history c.args.witnesses.1 receipt
    (subst (λ (n : ℕ). Covers seen may_leave moment head stored first
    disk.history receipt n) c.in-Ok.ensures.made.1 c.counted-counted.ensures.covered)

pub new-requires-in-Ok-2-clause-written : goal.new-requires-in-Ok-2-clause-written
new-requires-in-Ok-2-clause-written g c =
    let w = c.counted-counted.ensures.written in
    record { promise = w.promise; has = w.has; counts = omega arith; written = omega arith }
