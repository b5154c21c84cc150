-- Changesets that are weighed one by one.
use Rattle.std.proofs.Common.{◌≡◌, ℕ, List, [], ◌∷◌, drop, length, Option, Some, None, Result, Ok, Err, refl, sym, ap, ◌∙◌}
use Rattle.std.proofs.Common.{arith}
use Rattle.hg_types.specs.declared.entry.Entry.{Entry}
use Rattle.hg_sizes.specs.declared.weighing.Excess.{Excess}
use Rattle.hg_sizes.specs.Weights.{◌>>=◌, first_told, Load, load_behind, with_entry}
use Rattle.hg_sizes.specs.code.Maps.{told}

abbrev rest_of : {A : Type 0} → ℕ → List (Entry A) → List (Option ℕ) → Load → Result Load Excess
rest_of most entries here more = load_behind most more entries here

module _ {A : Type 0} (most : ℕ) (load : Load) (entries others : List (Entry A)) (entry : Entry A) (here : List (Option ℕ))
    (is : entries ≡ entry ∷ others)
  where
    step : load_behind most load entries here
        ≡ with_entry most load entry (first_told here) >>= rest_of most others (drop 1 here)
    unfolding load_behind
    step = ap (λ (es : List (Entry A)). load_behind most load es here) is

    -- the first changeset is light
    pub goes_on : (more : Load) → told None more ≡ with_entry most load entry (first_told here) →
        load_behind most load entries here ≡ load_behind most more others (drop 1 here)
    goes_on more weighed =
        step ∙ ap (λ (r : Result Load Excess). r >>= rest_of most others (drop 1 here)) (sym weighed)

    -- something is too much of it
    pub stops : (more : Load) (excess : Excess) → told (Some excess) more ≡ with_entry most load entry (first_told here) →
        load_behind most load entries here ≡ Err excess
    stops more excess weighed =
        step ∙ ap (λ (r : Result Load Excess). r >>= rest_of most others (drop 1 here)) (sym weighed)

-- none is left
pub ends : {A : Type 0} (most : ℕ) (load : Load) (entries : List (Entry A)) (here : List (Option ℕ)) → length entries ≡ 0 →
    load_behind most load entries here ≡ Ok load
unfolding load_behind
ends most load [] here none = refl
ends most load (entry ∷ entries) here none = absurd (omega (arith, none))
