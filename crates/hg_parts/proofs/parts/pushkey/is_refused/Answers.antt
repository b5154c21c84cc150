use Rattle.std.proofs.Common.{◌∙◌, Bool, not, ◌&&◌, sym, ap}
use Rattle.hg_parts.specs.PartTypes.{is_mandatory}
use Rattle.hg_parts.proofs.Mandatory.{mandatory_test}
use Rattle.hg_parts.proofs.parts.pushkey.is_refused.Goals as goal

pub returns-then-not-done : goal.returns-then-not-done
returns-then-not-done g c =
    mandatory_test _ _ c.is_mandatory.ensures
    ∙ sym (ap (λ (b : Bool). not b && is_mandatory c.args.part.now.kind) c.if-not-done.true)
