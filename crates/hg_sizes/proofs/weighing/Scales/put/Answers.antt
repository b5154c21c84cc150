use Rattle.std.proofs.Common.{sym, ap, subst, ◌∙◌, IfOk, ◌≡◌, Result}
use Rattle.hg_sizes.specs.declared.weighing.Excess.{Excess}
use Rattle.hg_sizes.specs.Measures.{measure_of}
use Rattle.hg_sizes.specs.Weights.{Load, with_delta, with_entry, with_text}
use Rattle.hg_sizes.specs.code.Maps.{load_of, told}
use Rattle.hg_sizes.proofs.weighing.Scales.put.Goals as goal

pub returns-in_default : goal.returns-in_default
unfolding with_entry
returns-in_default g c =
    ap (with_delta c.args.most (load_of c.args.self.now) c.args.entry.now) (sym c.in_default.is ∙ c.base_size.ensures)

pub returns-in-Ok : goal.returns-in-Ok
unfolding with_entry
returns-in-Ok g c =
    let load = load_of c.args.self.now in
    let read = sym c.in-Ok.is ∙ c.measure_delta.ensures.measure ∙ ap (measure_of c.in-Some.size) c.as_slice.ensures in
    let is = ap (with_text c.args.most load c.args.entry.now.node) read
    ∙ ap (with_delta c.args.most load c.args.entry.now) (sym c.in-Some.is ∙ c.base_size.ensures) in
    subst (λ (w : Result Load Excess). IfOk c.put_text.result (λ found. told found (load_of c.put_text.new.self) ≡ w)) is
    c.put_text.ensures

pub returns-in-Err : goal.returns-in-Err
unfolding with_entry
returns-in-Err g c =
    let load = load_of c.args.self.now in
    let read = sym c.in-Err.is ∙ c.measure_delta.ensures.measure ∙ ap (measure_of c.in-Some.size) c.as_slice.ensures in
    ap (with_text c.args.most load c.args.entry.now.node) read
    ∙ ap (with_delta c.args.most load c.args.entry.now) (sym c.in-Some.is ∙ c.base_size.ensures)
