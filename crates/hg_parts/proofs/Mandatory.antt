-- The test of a type's upper case letters.
use Rattle.std.proofs.Common.{ℕ, ◌≡◌, ◌↔◌, Bool, IsTrue, List}
use Rattle.std.specs.Char.{is_ascii_uppercase}
use Rattle.std.specs.Cmp.{both_ways}
use Rattle.std.proofs.lemmas.List.Folds.{Any-from_list_any, list_any-from_Any}
use Rattle.std.proofs.lemmas.Bool.{and_parts, and_from, leb-true, le-leb}
use Rattle.hg_types.specs.Part.{IsMandatory}
use Rattle.hg_parts.specs.PartTypes.{is_mandatory}

pub mandatory_test : (b : Bool) (kind : List ℕ) → (IsTrue b ↔ IsMandatory kind) → b ≡ is_mandatory kind
mandatory_test b kind says = both_ways b (is_mandatory kind)
    (λ yes. let found = says.0 yes in
    list_any-from_Any is_ascii_uppercase kind (
      found.0,
      found.1,
      found.2,
      found.3,
      and_from _ _ (le-leb 65 found.1 found.4.0) (le-leb found.1 90 found.4.1),
    ))
    (λ yes. let found = Any-from_list_any is_ascii_uppercase kind yes in
    let parts = and_parts _ _ found.4 in
    says.1 (found.0, found.1, found.2, found.3, (leb-true 65 found.1 parts.0, leb-true found.1 90 parts.1)))
