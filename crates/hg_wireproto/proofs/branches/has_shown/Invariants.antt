use Rattle.std.proofs.Common.{◌≡◌, take}
use Rattle.std.specs.Prelude.{not}
use Rattle.std.specs.List.{list_any}
use Rattle.hg_wireproto.proofs.branches.has_shown.Given as goal

-- whether one of those so far is not left out
abbrev pub invariant-loop-is_out : goal.invariant-loop-is_out
invariant-loop-is_out l = l.has ≡ list_any not (take l.is_out-index l.out)
