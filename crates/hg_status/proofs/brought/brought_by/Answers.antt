use Rattle.std.proofs.Common.{◌≡◌, ◌-◌, sym, ◌∙◌, length, arith}
use Rattle.hg_status.proofs.Steps.{parts_kept, parts_done}
use Rattle.hg_status.proofs.brought.brought_by.Goals as goal

pub parts-preserved : goal.parts-preserved
parts-preserved c =
    parts_kept (length c.args.bundle.now) c.parts._step c.parts.count c.read_payload-more.result.0
    c.saturating_add-count.result c.read_sized-in-parts.result.0.now c.read_sized-in-parts.result.1.now
    c.parts.rest.now c.read_payload-more.result.1.now c.is_changegroup.result _ c.parts-test.true
    (sym c.is_empty.ensures ∙ c.if-is_empty.false) c.read_sized-in-parts.ensures.first
    c.read_sized-in-parts.ensures.after c.is_changegroup.ensures c.read_payload-more.ensures.count
    c.read_payload-more.ensures.after c.saturating_add-count.ensures c.parts.invariant

pub returns-after-parts : goal.returns-after-parts
returns-after-parts c =
    let n : length c.args.bundle.now - c.parts._step ≡ 0 = omega (arith, c.parts-test.false) in
    (rw n at c.parts.invariant)

pub returns-then-is_empty : goal.returns-then-is_empty
returns-then-is_empty c =
    parts_done (length c.args.bundle.now - c.parts._step) c.parts.count c.read_sized-in-parts.result.0.now
    c.parts.rest.now _ (sym c.is_empty.ensures ∙ c.if-is_empty.true) c.read_sized-in-parts.ensures.first
    c.parts.invariant
