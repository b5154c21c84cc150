use Rattle.std.proofs.Common.{◌≡◌, ◌∙◌, ap, sym, true, false, inr, Err}
use Rattle.std.proofs.lemmas.Bool.{cond-true, cond-false}
use Rattle.hg_parts.specs.PartTypes.{is_mandatory}
use Rattle.hg_parts.proofs.Mandatory.{mandatory_test}
use Rattle.hg_parts.proofs.parts.unsupported.handle_unsupported.Goals as goal

pub returns-then-is_mandatory : goal.returns-then-is_mandatory
returns-then-is_mandatory g c =
    let mandatory : is_mandatory c.args.part.now.kind ≡ true = sym (mandatory_test _ _ c.is_mandatory.ensures)
    ∙ c.if-is_mandatory.true in
    λ repo. inr (cond-true (is_mandatory c.args.part.now.kind) _ _ mandatory
    ∙ ap Err (sym c.in_ok-unsupported.ensures))

pub returns : goal.returns
returns g c =
    let advisory : is_mandatory c.args.part.now.kind ≡ false = sym (mandatory_test _ _ c.is_mandatory.ensures)
    ∙ c.if-is_mandatory.false in
    λ repo. cond-false (is_mandatory c.args.part.now.kind) _ _ advisory
