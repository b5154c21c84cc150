use Rattle.std.proofs.Common.{◌∙◌, ap, length, ℕ, set}
use Rattle.std.specs.Int.RustNames.{bit_or}
use Rattle.std.proofs.lemmas.List.{get_or_default}
use Rattle.hg_wireproto.proofs.Gathering.{added_at, some_within}
use Rattle.hg_wireproto.proofs.behind.add_sets.Goals as goal

pub returns-in-Some : goal.returns-in-Some
returns-in-Some g c =
    let old = c.args.behind.now.items in
    let p = c.in-Some.parent in
    let within = some_within c.args.parent p (length old) c.in-Some.is c.requires in
    let read = c.index_mut.ensures.value ∙ get_or_default old p _ 0 within in
    added_at c.args.parent p c.args.sets old _ c.in-Some.is within
    (ap (λ (x : ℕ). set old p (bit_or x c.args.sets)) read)
