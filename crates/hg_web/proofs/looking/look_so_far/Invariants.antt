use mathlib.Core.List.{IsPrefix}
use Rattle.hg_web.proofs.looking.look_so_far.Given as goal

abbrev pub invariant-looking : goal.invariant-looking
invariant-looking g l = IsPrefix l.fn.client l.client
