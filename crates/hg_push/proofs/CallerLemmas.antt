-- What the crates above cite in their proofs.
use Rattle.std.proofs.Common.{◌≡◌, List, [], ◌∷◌, ◌++◌, refl, sym, ◌∙◌, ap, map, append_assoc}
use Rattle.std.specs.Prelude.{reverse}
use Rattle.std.proofs.lemmas.List.{append-nil, reverse-append}
use Rattle.hg_parts.specs.declared.item.Taken.{Taken}
use Rattle.hg_push.specs.History.{History}
use Rattle.hg_push.specs.World.{items_in}

items_in-append : {A : Type 0} (late before : History A) → items_in (late ++ before) ≡ items_in before
    ++ items_in late
items_in-append [] before = sym (append-nil (items_in before))
items_in-append (x ∷ late) before = ap (λ is. is ++ x.item ∷ []) (items_in-append late before)
    ∙ append_assoc (items_in before) (items_in late) (x.item ∷ [])

-- a history whose oldest place is first, as a queue tells it, has the same items in the same order
pub items_in-reverse : {A : Type 0} (h : List (Taken A)) → items_in (reverse h) ≡ map (λ x. x.item) h
items_in-reverse [] = refl
items_in-reverse (x ∷ h) = ap items_in (reverse-append (x ∷ []) h)
    ∙ (items_in-append (reverse h) (x ∷ []) ∙ ap (λ is. x.item ∷ is) (items_in-reverse h))
