use Rattle.std.proofs.Common.{◌≡◌, take}
use Rattle.std.specs.Option.{option_map}
use Rattle.hg_wireproto.specs.Form.{value_in}
use Rattle.hg_wireproto.proofs.form.value_of.Given as goal

-- the last so far
abbrev pub invariant-loop-field : goal.invariant-loop-field
invariant-loop-field g l = option_map (λ value. value.now) l.found ≡ value_in (take l.field-index l.fields) l.name
