-- What stands against a part, for the table of part types.
use Rattle.std.proofs.Common.{option_map, find, Option, Some}
use Rattle.std.proofs.Common.{◌≡◌, true≢false, Bool, true, false, ◌||◌, List, [], ◌∷◌, map, filter, refl}
use Rattle.std.proofs.Common.{sym, ap, ◌∙◌, cond, ℕ}
use Rattle.std.specs.List.{list_any}
use Rattle.hg_types.specs.declared.part.Param.{Param}
use Rattle.hg_parts.specs.declared.table.PartType.{PartType}
use Rattle.hg_parts.specs.PartTypes.{is_unknown, unknown_names, support_by, Supported, Unsupported}

pub list_any-map : {X Y : Type 0} (p : Y → Bool) (f : X → Y) (xs : List X)
    → list_any (λ x. p (f x)) xs ≡ list_any p (map f xs)
list_any-map p f [] = refl
list_any-map p f (x ∷ xs) = ap (λ b. p (f x) || b) (list_any-map p f xs)

-- where no parameter stands against it, the part is supported
pub none_unknown : {A : Type 0} (part_type : PartType) (known : List (List ℕ)) (params : List (Param A))
    → list_any (is_unknown known) params ≡ false
    → support_by part_type (unknown_names known params) ≡ Supported part_type
none_unknown part_type known [] none = refl
none_unknown part_type known (param ∷ params) none =
    let rest = filter (is_unknown known) params in
    elim (is_unknown known param) as (λ b. (b || list_any (is_unknown known) params) ≡ false
    → support_by part_type (map (λ p. p.key) (cond b (param ∷ rest) rest)) ≡ Supported part_type) [
      | true ↦ λ one. absurd (true≢false one)
      | false ↦ λ none. none_unknown part_type known params none
    ] none

-- where one does, it is not
pub some_unknown : {A : Type 0} (part_type : PartType) (known : List (List ℕ)) (params : List (Param A))
    → list_any (is_unknown known) params ≡ true
    → support_by part_type (unknown_names known params) ≡ Unsupported (unknown_names known params)
some_unknown part_type known [] some = absurd (true≢false (sym some))
some_unknown part_type known (param ∷ params) some =
    let rest = filter (is_unknown known) params in
    elim (is_unknown known param) as (λ b. (b || list_any (is_unknown known) params) ≡ true
    → support_by part_type (map (λ p. p.key) (cond b (param ∷ rest) rest)) ≡ Unsupported
    (map (λ p. p.key) (cond b (param ∷ rest) rest))) [
      | true ↦ λ one. refl
      | false ↦ λ some. some_unknown part_type known params some
    ] some

-- what is found among values is the value of what is found
pub found-map : {X Y : Type 0} (p : Y → Bool) (f : X → Y) (xs : List X) (found : Option X)
    → found ≡ find (λ x. p (f x)) xs → option_map f found ≡ find p (map f xs)
found-map {X} {Y} p f xs found is = ap (option_map f) is ∙ found-in xs
  where
    found-in : (xs : List X) → option_map f (find (λ x. p (f x)) xs) ≡ find p (map f xs)
    found-in [] = refl
    found-in (x ∷ xs) =
        elim (p (f x)) as (λ b. option_map f (cond b (Some x) (find (λ x. p (f x)) xs)) ≡ cond b (Some (f x))
        (find p (map f xs))) [
          | true ↦ refl
          | false ↦ found-in xs
        ]
