use Rattle.std.proofs.Common.{◌≡◌, ◌++◌, map, take}
use Rattle.std.specs.List.{flat_map}
use Rattle.hg_params.specs.Header.{param_data}
use Rattle.hg_params.specs.Writing.{key_value}
use Rattle.hg_params.proofs.write.append_texts.Given as goal

-- those of the parameters so far are there
abbrev pub invariant-loop-param : goal.invariant-loop-param
invariant-loop-param g l =
    l.out.items ≡ l.fn.out.items ++ flat_map param_data (map key_value (take l.param-index l.params))
