use Rattle.std.proofs.Common.{rules, ◌≡◌, subst, ◌∙◌}
use Rattle.std.proofs.lemmas.List.{take_all}
use Rattle.hg_types.specs.Part.{LacksKey}
use Rattle.hg_types.proofs.PartLemmas.{first_with, lacks_more, differs}
use Rattle.hg_types.proofs.part.Part.param.Goals as goal

pub returns-then-is_key-clause-found : goal.returns-then-is_key-clause-found
returns-then-is_key-clause-found g c =
    let same : c.param-item.result.key ≡ c.args.key.now = search rules in
    let found = first_with c.as_slice-param-items.result.now c.args.key.now c.loop-param.param-index
    c.param-item.result c.loop-param-test.true c.param-item.is c.loop-param.invariant same in
    rw (c.as_slice-then-is_key.ensures, ← c.as_slice-param-items.ensures) found

pub loop-param-preserved : goal.loop-param-preserved
loop-param-preserved g c =
    lacks_more c.as_slice-param-items.result.now c.args.key.now c.loop-param.param-index c.param-item.result
    c.loop-param-test.true c.param-item.is c.loop-param.invariant
    (λ e. differs c.is_key.ensures.1 c.if-is_key.false (c.as_slice.ensures ∙ e))

pub returns-clause-none : goal.returns-clause-none
returns-clause-none g c =
    let all = take_all c.loop-param.param-index c.as_slice-param-items.result.now c.loop-param-test.false in
    subst (λ ps. LacksKey ps c.args.key.now) (all ∙ c.as_slice-param-items.ensures) c.loop-param.invariant
