use Rattle.std.proofs.Common.{vec_len}
use mathlib.Core.List.{IsPrefix}
use Rattle.hg_host.proofs.service.join.Given as goal

abbrev pub invariant-joining : goal.invariant-joining
invariant-joining g l = IsPrefix l.fn.items.items l.items.items

abbrev pub decreases-joining : goal.decreases-joining
decreases-joining g l = vec_len l.more
