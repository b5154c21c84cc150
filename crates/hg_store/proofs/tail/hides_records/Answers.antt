use Rattle.std.proofs.Common.{◌∙◌, ◌∷◌, ap, arith, sym, eqb-true}
use Rattle.hg_store.specs.Records.{open_gate}
use Rattle.hg_store.specs.Tails.{beyond_with}
use Rattle.hg_store.proofs.Tails.{begun, next_walk, none_of, one_too_many, over, shorter, stopped}
use Rattle.hg_store.proofs.tail.hides_records.Goals as goal

pub records-init : goal.records-init
records-init c = begun c.args.version c.args.start.now c.args.tail.now

pub returns-in_default-clause-shown : goal.returns-in_default-clause-shown
returns-in_default-clause-shown c = λ _.
    stopped c.args.version c.args.start.now c.args.tail.now c.records.digest c.records.count c.records.beyond
    c.records.rest.now c.records.invariant c.read_byte-gate.result.0 c.read_byte-gate.result.1.now
    c.read_byte-gate.ensures (none_of c.record_behind.result c.args.version c.records.digest
    (open_gate c.args.version ∷ c.read_byte-gate.result.1.now) c.record_behind.ensures.end
    c.record_behind.ensures.torn c.record_behind.ensures.damaged c.in_default.not-Ok)

pub returns-then-is_full-clause-hidden : goal.returns-then-is_full-clause-hidden
returns-then-is_full-clause-hidden c = λ _.
    one_too_many c.args.version c.args.start.now c.args.tail.now c.records.digest c.records.count c.records.beyond
    c.records.rest.now c.records.invariant c.read_byte-gate.result.0 c.read_byte-gate.result.1.now
    c.read_byte-gate.ensures c.in-Ok._record c.in-Ok.after.now c.record_behind.new.digest c.in-Ok.ensures.whole
    (c.is_full.ensures.full c.if-is_full.true)

pub records-smaller : goal.records-smaller
records-smaller c =
    shorter c.args.version c.args.start.now c.args.tail.now c.records.digest c.records.count c.records.beyond
    c.records.rest.now c.records.invariant c.read_byte-gate.result.0 c.read_byte-gate.result.1.now
    c.read_byte-gate.ensures c.in-Ok._record c.in-Ok.after.now c.record_behind.new.digest c.in-Ok.ensures.whole

pub records-preserved : goal.records-preserved
records-preserved c =
    next_walk c.args.version c.args.start.now c.args.tail.now c.records.digest c.records.count c.records.beyond
    c.records.rest.now c.records.invariant c.read_byte-gate.result.0 c.read_byte-gate.result.1.now
    c.read_byte-gate.ensures c.in-Ok._record c.in-Ok.after.now c.record_behind.new.digest c.in-Ok.ensures.whole
    (c.is_full.ensures.room c.if-is_full.false) c.beyond_with-beyond.result
    (c.beyond_with-beyond.ensures ∙ ap (beyond_with c.records.count c.records.beyond)
    (omega (arith, c.saturating_sub.ensures)))

pub returns-clause-shown : goal.returns-clause-shown
returns-clause-shown c = λ _.
    over c.args.version c.args.start.now c.args.tail.now c.records.digest c.records.count c.records.beyond
    c.records.rest.now c.records.invariant (eqb-true _ _ (sym c.is_empty.ensures ∙ c.records-test.false))
