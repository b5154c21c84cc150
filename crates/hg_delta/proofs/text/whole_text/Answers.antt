use Rattle.std.proofs.Common.{rules, ◌≡◌, ◌≤◌, [], ◌++◌, length, drop, Ok, refl, ap, ◌∙◌, arith}
use Rattle.std.proofs.lemmas.List.{nil_from_length}
use Rattle.hg_delta.specs.Delta.{hunk_bytes}
use Rattle.hg_delta.specs.Faults.{gives}
use Rattle.hg_delta.specs.code.View.{view}
use Rattle.hg_delta.proofs.Outcomes.{outcome_is}
use Rattle.hg_delta.proofs.Wholes.{content_is, nothing_applies, whole_applies}
use Rattle.hg_delta.proofs.text.whole_text.Goals as goal

pub returns-clause-text : goal.returns-clause-text
returns-clause-text c =
    let whole = c.if-not-is_whole.ensures refl in
    let hunk = view c.in-Ok.hunk in
    whole_applies c.args.base.now c.args.delta.now hunk c.in-Ok.ensures.placed
    (c.in-Ok.ensures.spelled ∙ ap (λ rest. hunk_bytes hunk ++ rest) whole.2) whole.0 whole.1

pub returns-clause-fits : goal.returns-clause-fits
returns-clause-fits c =
    let whole = c.if-not-is_whole.ensures refl in
    let hunk = view c.in-Ok.hunk in
    let is = content_is c.args.delta.now hunk
    (c.in-Ok.ensures.spelled ∙ ap (λ rest. hunk_bytes hunk ++ rest) whole.2) in
    omega (arith, ap length is, c.if-hunk-max.false)

pub returns-clause-outcome : goal.returns-clause-outcome
returns-clause-outcome c =
    let whole = c.if-not-is_whole.ensures refl in
    let hunk = view c.in-Ok.hunk in
    let spelled = c.in-Ok.ensures.spelled ∙ ap (λ rest. hunk_bytes hunk ++ rest) whole.2 in
    let is = content_is c.args.delta.now hunk spelled in
    let few : length (drop 12 c.args.delta.now) ≤ c.args.max = omega (arith, ap length is, c.if-hunk-max.false) in
    outcome_is c.args.base.now c.args.delta.now c.args.max (Ok (drop 12 c.args.delta.now))
    (λ i. omega (arith, c.type_inv.delta i))
    (gives (drop 12 c.args.delta.now)
    (whole_applies c.args.base.now c.args.delta.now hunk c.in-Ok.ensures.placed spelled whole.0 whole.1) few)

pub returns-then-is_empty-clause-outcome : goal.returns-then-is_empty-clause-outcome
returns-then-is_empty-clause-outcome c =
    let delta = c.args.delta.now in
    let empty : delta ≡ [] = nil_from_length delta (search rules) in
    let none : c.args.base.now ≡ [] = nil_from_length c.args.base.now (search rules) in
    outcome_is c.args.base.now delta c.args.max (Ok (drop 0 delta)) (λ i. omega (arith, c.type_inv.delta i))
    (gives (drop 0 delta) (nothing_applies c.args.base.now delta none empty) (omega (arith, ap length empty)))
