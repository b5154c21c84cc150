use Rattle.std.proofs.Common.{◌≡◌, ◌∙◌, ap, sym, List, ℕ, Bor, Some}
use Rattle.std.specs.Option.{option_map}
use Rattle.std.specs.Prelude.{bytes_eq}
use Rattle.hg_wireproto.proofs.Fields.{none_yet, value_here, value_before}
use Rattle.hg_wireproto.proofs.form.value_of.Goals as goal
use Rattle.hg_wireproto.proofs.form.value_of.Goals.{then-is_same, else-is_same}

pub loop-field-init : goal.loop-field-init
loop-field-init g c = none_yet _ c.args.name.now

pub loop-field-preserved : goal.loop-field-preserved
loop-field-preserved g c =
    let fields = c.args.fields.now in
    let i = c.loop-field.field-index in
    let name = c.args.name.now in
    let field = c.field-item.result in
    let same : bytes_eq field.name name ≡ c.is_same.result =
    sym (c.is_same.ensures ∙ ap (λ (own : List ℕ). bytes_eq own name) c.as_slice.ensures) in
    elim c.if-is_same.branch [
      | then-is_same w ↦ ap (option_map (λ (t : Bor (List ℕ)). t.now)) w.found-is
          ∙ ap (λ (v : List ℕ). Some v) w.as_slice-then-is_same.ensures
          ∙ sym (value_here fields i field name c.loop-field-test.true c.field-item.is
          (same ∙ w.if-is_same.true))
      | else-is_same w ↦ ap (option_map (λ (t : Bor (List ℕ)). t.now)) w.found-is
          ∙ c.loop-field.invariant
          ∙ sym (value_before fields i field name c.loop-field-test.true c.field-item.is
          (same ∙ w.if-is_same.false))
    ]
