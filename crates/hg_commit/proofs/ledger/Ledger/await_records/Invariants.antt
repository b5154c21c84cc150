use Rattle.std.proofs.Common.{◌≡◌}
use Rattle.hg_commit.proofs.ledger.Ledger.await_records.Given as goal

abbrev pub invariant-waiting : goal.invariant-waiting
invariant-waiting g l = l.client ≡ l.fn.client
