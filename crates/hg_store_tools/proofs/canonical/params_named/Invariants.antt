use Rattle.std.proofs.Common.{◌≡◌, map, take}
use Rattle.hg_store_tools.specs.Canonical.{params_named}
use Rattle.hg_store_tools.proofs.canonical.params_named.Given as goal

-- those of the parameters so far
abbrev pub invariant-loop-param : goal.invariant-loop-param
invariant-loop-param g l =
    l.named ≡ params_named (map (λ name. name.now) l.names) (take l.param-index l.params)
