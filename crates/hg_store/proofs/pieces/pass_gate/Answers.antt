use Rattle.std.proofs.Common.{◌∙◌, subst, sym}
use Rattle.hg_store.specs.Pieces.{GivesNoRecord}
use Rattle.hg_store.specs.declared.record.NoRecord.{NoRecord}
use Rattle.hg_store.specs.declared.record.NoRecord.TheVariants.{Damaged, End}
use Rattle.hg_store.proofs.ByPiece.{gate_damaged, gate_shut, stop_is}
use Rattle.hg_store.proofs.pieces.pass_gate.Goals as goal

pub returns-then-gate-eq-SHUT-clause-none : goal.returns-then-gate-eq-SHUT-clause-none
returns-then-gate-eq-SHUT-clause-none g c = λ before stop is.
    let a = g.R.Read.remaining c.args.reader.now in
    let b = g.R.Read.remaining c.refill.new.reader in
    subst (λ (s : NoRecord). GivesNoRecord s c.args.version before a b) (stop_is End stop is)
    (gate_shut c.args.version c.refill.new.bytes.items c.read_byte-gate.result.1.now c.read_byte-gate.result.0 a b
    c.in-Ok.ensures (sym c.as_slice.ensures.value ∙ c.read_byte-gate.ensures) before c.if-gate-eq-SHUT.true)

pub returns-then-gate-open_gate-clause-none : goal.returns-then-gate-open_gate-clause-none
returns-then-gate-open_gate-clause-none g c = λ before stop is.
    let a = g.R.Read.remaining c.args.reader.now in
    let b = g.R.Read.remaining c.refill.new.reader in
    subst (λ (s : NoRecord). GivesNoRecord s c.args.version before a b) (stop_is Damaged stop is)
    (gate_damaged c.args.version c.refill.new.bytes.items c.read_byte-gate.result.1.now c.read_byte-gate.result.0 a b
    c.in-Ok.ensures (sym c.as_slice.ensures.value ∙ c.read_byte-gate.ensures) before c.if-gate-eq-SHUT.false
    (λ e. c.if-gate-open_gate.true (e ∙ sym c.open_gate.ensures)))
