use Rattle.std.proofs.Common.{rules, ◌∙◌, ap, arith, subst, sym}
use Rattle.std.specs.List.Sorted.{IsSearchInRange}
use Rattle.std.proofs.lemmas.List.Sorted.{answers_always}
use Rattle.hg_push.proofs.Searching.{search_place, found_place}
use Rattle.hg_push.proofs.step.place_of.Goals as goal

-- the closure gives a row's number
pub returns : goal.returns
returns g c =
    let facts = c.binary_search_by_key.ensures in
    let by_key = facts.position (λ row. row.push) (answers_always _ _ _ (λ f a r g called. search rules)) in
    c.ok.ensures.value ∙ search_place c.args.push c.args.rows.now.items c.binary_search_by_key.result c.requires
    (subst (IsSearchInRange c.binary_search_by_key.result) c.args.rows.now.ok.0 facts.bound) by_key

pub returns-then-index-push : goal.returns-then-index-push
returns-then-index-push g c =
    found_place c.args.push c.args.rows.now.items _ c.index.result.now c.requires
    (omega (arith, c.if-distance-len.true, c.len.ensures, c.args.rows.now.ok.0))
    (ap (λ r. r.push) (sym c.index.ensures) ∙ c.if-index-push.true)
