use Rattle.std.proofs.Common.{List, ℕ, Option, ap, sym, ◌∙◌}
use Rattle.hg_sizes.specs.declared.weighing.Excess.{Excess}
use Rattle.hg_sizes.specs.Weights.{excess_in, excess_of, Load, load_behind, with_entry}
use Rattle.hg_sizes.specs.code.Maps.{load_of, told}
use Rattle.hg_sizes.proofs.Weighed.{ends, goes_on, stops}
use Rattle.hg_sizes.proofs.weighing.weigh.Goals as goal

pub entries-init : goal.entries-init
unfolding excess_of
entries-init g c =
    ap (λ (load : Load). excess_in (load_behind c.args.most load c.args.entries.now c.args.here.now))
    (sym c.new-scales.ensures)

pub returns-in-Some-2 : goal.returns-in-Some-2
returns-in-Some-2 g c =
    let load = load_of c.entries.scales in
    let entry = c.in-Some.entry.now in
    let weighed = ap (λ (found : Option Excess). told found (load_of c.put.new.self)) (sym c.in-Some-2.is)
    ∙ (c.in_ok-excess.ensures ∙ ap (with_entry c.args.most load entry) c.next_row-row.ensures.first) in
    sym (c.entries.invariant ∙ ap excess_in (stops c.args.most load c.entries.left.now c.in-Some.others.now entry
    c.entries.rows.now c.in-Some.ensures.cases.0 (load_of c.put.new.self) c.in-Some-2.excess weighed))

pub entries-preserved : goal.entries-preserved
entries-preserved g c =
    let load = load_of c.entries.scales in
    let entry = c.in-Some.entry.now in
    let more = load_of c.put.new.self in
    let weighed = ap (λ (found : Option Excess). told found more) (sym c.in_default-2.is)
    ∙ (c.in_ok-excess.ensures ∙ ap (with_entry c.args.most load entry) c.next_row-row.ensures.first) in
    c.entries.invariant ∙ ap excess_in (goes_on c.args.most load c.entries.left.now c.in-Some.others.now entry
    c.entries.rows.now c.in-Some.ensures.cases.0 more weighed
    ∙ ap (λ (here : List (Option ℕ)). load_behind c.args.most more c.in-Some.others.now here)
    (sym c.next_row-row.ensures.rest))

pub returns : goal.returns
returns g c =
    sym (c.entries.invariant ∙ ap excess_in (ends c.args.most (load_of c.entries.scales) c.entries.left.now
    c.entries.rows.now c.in_default.ensures.cases))
