-- How a part is held that was sent.
use Rattle.std.specs.Prelude.{List, [], ◌∷◌}
use Rattle.hg_types.specs.declared.part.Part.{Part}
use Rattle.hg_parts.specs.declared.sent.Held.{Held}
use Rattle.hg_parts.specs.declared.sent.Held.TheVariants.{AsItCame, Read}
use Rattle.hg_parts.specs.Prepared.{IsMadeOf}

-- the part that was sent: as it came, or as it was noted when it was read
abbrev pub part_in : {A : Type 0} → Held A → List (Part A) → Part A
part_in (AsItCame part) noted = part
part_in (Read prepared) [] = prepared.part
part_in (Read prepared) (part ∷ noted) = part

-- what was read ahead is what reading this part gives
abbrev pub IsReadOf : {A : Type 0} → Part A → Held A → Type 0
IsReadOf part (AsItCame same) = Unit {0}
IsReadOf part (Read prepared) = IsMadeOf part prepared
