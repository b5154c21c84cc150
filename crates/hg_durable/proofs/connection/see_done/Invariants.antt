use mathlib.Core.List.{IsPrefix}
use Rattle.hg_durable.proofs.connection.see_done.Given as goal

abbrev pub invariant-looking : goal.invariant-looking
invariant-looking g l = IsPrefix l.fn.client l.client
