use Rattle.std.proofs.Common.{◌∷◌, ◌∙◌, ℕ, List, ap, subst, sym}
use Rattle.std.specs.Prelude.{IfOk}
use Rattle.hg_store.specs.Records.{no_gate, shut}
use Rattle.hg_store.specs.code.Headings.{IsCutHeading, IsHeading}
use Rattle.hg_store.proofs.heading.heading_in.Goals as goal

pub returns-then-gate-eq-SHUT-clause-end : goal.returns-then-gate-eq-SHUT-clause-end
returns-then-gate-eq-SHUT-clause-end c = λ _.
    shut c.read_byte-gate.result.1.now
    (c.read_byte-gate.ensures ∙ ap (λ (g : ℕ). g ∷ c.read_byte-gate.result.1.now) c.if-gate-eq-SHUT.true)

pub returns-then-gate-clause-damaged : goal.returns-then-gate-clause-damaged
returns-then-gate-clause-damaged c = λ before _.
    no_gate c.read_byte-gate.result.0 c.read_byte-gate.result.1.now c.read_byte-gate.ensures
    c.if-gate-eq-SHUT.false c.if-gate.true

pub returns-clause-whole : goal.returns-clause-whole
returns-clause-whole c =
    let spelled = c.read_byte-gate.ensures ∙ ap (λ (g : ℕ). g ∷ c.read_byte-gate.result.1.now) c.if-gate.false in
    subst (λ (l : List ℕ). IfOk c.fields_in.result (λ heading.
    IsHeading heading.numbers heading.name.now heading.told.now l)) (sym spelled) c.fields_in.ensures.whole

pub returns-clause-torn : goal.returns-clause-torn
returns-clause-torn c = λ torn.
    let spelled = c.read_byte-gate.ensures ∙ ap (λ (g : ℕ). g ∷ c.read_byte-gate.result.1.now) c.if-gate.false in
    subst IsCutHeading (sym spelled) (c.fields_in.ensures.torn torn)
