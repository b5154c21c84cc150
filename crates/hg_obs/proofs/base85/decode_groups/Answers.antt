use Rattle.std.proofs.Common.{◌≤◌, ◌++◌, ap, ◌∙◌, length, arith, List, ℕ}
use Rattle.hg_obs.specs.Base85.{decoded_groups}
use Rattle.hg_obs.proofs.Base85Groups.{goes_on}
use Rattle.hg_obs.proofs.base85.decode_groups.Goals as goal

pub loop-group-preserved : goal.loop-group-preserved
loop-group-preserved g c =
    let cut = c.in-Some.ensures.cases in
    let long : 5 ≤ length c.loop-group.rest.now = omega (arith, cut.2) in
    let new = c.in_ok-extend_from_slice.ensures.items
    ∙ ap (λ (l : List ℕ). c.loop-group.bytes.items ++ l) c.to_be_bytes.ensures in
    goes_on c.loop-group.bytes.items c.extend_from_slice.new.self.items c.loop-group.rest.now
    c.in-Some.group.now c.in-Some.after.now c.in_ok-number.field-0
    (decoded_groups c.args.text.now) long cut.0 cut.1 c.in_ok-number.ensures new c.loop-group.invariant
