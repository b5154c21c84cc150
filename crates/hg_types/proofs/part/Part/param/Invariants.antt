use Rattle.std.proofs.Common.{take}
use Rattle.hg_types.specs.Part.{LacksKey}
use Rattle.hg_types.proofs.part.Part.param.Given as goal

-- no parameter so far has the key
abbrev pub invariant-loop-param : goal.invariant-loop-param
invariant-loop-param g l = LacksKey (take l.param-index l.param-items) l.key
