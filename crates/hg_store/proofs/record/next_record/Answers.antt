use Rattle.std.proofs.Common.{◌≡◌, ℕ, ◌∷◌, sym, ap, ◌∙◌, subst}
use Rattle.hg_store.specs.Records.{IsDamaged, IsTorn, no_gate, open_gate, shut}
use Rattle.hg_store.proofs.record.next_record.Goals as goal

pub returns-then-gate-eq-SHUT-clause-end : goal.returns-then-gate-eq-SHUT-clause-end
returns-then-gate-eq-SHUT-clause-end c = λ _.
    shut c.read_byte-gate.result.1.now
    (c.read_byte-gate.ensures ∙ ap (λ (g : ℕ). g ∷ c.read_byte-gate.result.1.now) c.if-gate-eq-SHUT.true)

pub returns-then-gate-open_gate-clause-damaged : goal.returns-then-gate-open_gate-clause-damaged
returns-then-gate-open_gate-clause-damaged c = λ _.
    no_gate c.read_byte-gate.result.0 c.read_byte-gate.result.1.now c.read_byte-gate.ensures
    c.if-gate-eq-SHUT.false (λ e. c.if-gate-open_gate.true (e ∙ sym c.open_gate.ensures))

pub returns-clause-torn : goal.returns-clause-torn
returns-clause-torn c = λ torn.
    let is : c.read_byte-gate.result.0 ≡ open_gate c.args.version = c.if-gate-open_gate.false ∙ c.open_gate.ensures in
    let spelled = c.read_byte-gate.ensures ∙ ap (λ (g : ℕ). g ∷ c.read_byte-gate.result.1.now) is in
    subst (IsTorn c.args.version) (sym spelled) (c.record_behind.ensures.torn torn)

pub returns-clause-damaged : goal.returns-clause-damaged
returns-clause-damaged c = λ damaged.
    let is : c.read_byte-gate.result.0 ≡ open_gate c.args.version = c.if-gate-open_gate.false ∙ c.open_gate.ensures in
    let spelled = c.read_byte-gate.ensures ∙ ap (λ (g : ℕ). g ∷ c.read_byte-gate.result.1.now) is in
    subst (IsDamaged c.args.version c.args.digest.now) (sym spelled) (c.record_behind.ensures.damaged damaged)
