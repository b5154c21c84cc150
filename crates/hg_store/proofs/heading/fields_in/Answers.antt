use Rattle.std.proofs.Common.{◌∷◌, ℕ, List, ap, refl}
use Rattle.hg_store.specs.Records.{open_gate}
use Rattle.hg_store.specs.code.Headings.{behind_numbers, in_numbers}
use Rattle.hg_store.specs.declared.head.Version.TheVariants.{Second}
use Rattle.hg_store.proofs.Streamed.{heading_of}
use Rattle.hg_store.proofs.heading.fields_in.Goals as goal

pub returns-in_default-clause-torn : goal.returns-in_default-clause-torn
returns-in_default-clause-torn c = λ _. in_numbers c.args.behind.now refl (c.in_default.ensures.short refl)

pub returns-then-rest-named-clause-torn : goal.returns-then-rest-named-clause-torn
returns-then-rest-named-clause-torn c = λ _.
    behind_numbers c.in-Some.numbers c.in-Some.rest.now c.in-Some.ensures.numbers
    (ap (λ (l : List ℕ). open_gate Second ∷ l) c.in-Some.ensures.spelled) c.if-rest-named.true

pub returns-clause-whole : goal.returns-clause-whole
returns-clause-whole c =
    heading_of c.in-Some.numbers c.args.behind.now c.in-Some.rest.now c.split_at.result.0.now c.split_at.result.1.now
    c.in-Some.ensures.spelled c.in-Some.ensures.numbers c.if-rest-named.false c.split_at.ensures.front
    c.split_at.ensures.back
