-- Groups, one at a time.
use Rattle.std.proofs.Common.{◌≡◌, ◌^◌, ◌≤◌, ◌&&◌, ℕ, Bool, true, false, cond, ltb, List, [], ◌∷◌, ◌++◌}
use Rattle.std.proofs.Common.{length, take, drop, Result, Ok, Err, refl, sym, ap, ◌∙◌, append_assoc, arith}
use Rattle.std.specs.Int.{w32, to_be_bytes}
use Rattle.std.specs.List.{list_all, flat_map}
use Rattle.std.proofs.lemmas.List.Concat.{flat_map-cons}
use Rattle.hg_obs.specs.declared.fault.Base85Fault.{Base85Fault}
use Rattle.hg_obs.specs.declared.fault.Base85Fault.TheVariants.{Overflow}
use Rattle.hg_obs.specs.Base85.{fives, fits, group_value, group_bytes, decoded_groups}
use Rattle.hg_obs.specs.code.GroupNumber.{fitting}

-- bytes before others
abbrev pub with_front : List ℕ → Result (List ℕ) Base85Fault → Result (List ℕ) Base85Fault
with_front front (Ok bytes) = Ok (front ++ bytes)
with_front front (Err fault) = Err fault

abbrev same : ℕ → Result ℕ Base85Fault
same n = Ok n

abbrev failed : Base85Fault → Result ℕ Base85Fault
failed fault = Err fault

clash : (n : ℕ) → failed Overflow ≡ same n → ⊥
clash n e = absurd cc

-- the bytes of a whole group, and of what is after it
pub decoded_step : (rest group after : List ℕ) → 5 ≤ length rest → group ≡ take 5 rest → after ≡ drop 5 rest
    → decoded_groups rest ≡ cond (ltb (group_value group) (2 ^ 32))
    (with_front (to_be_bytes w32 (group_value group)) (decoded_groups after)) (Err Overflow)
decoded_step [] group after long g h = absurd (omega arith)
decoded_step (a ∷ []) group after long g h = absurd (omega arith)
decoded_step (a ∷ b ∷ []) group after long g h = absurd (omega arith)
decoded_step (a ∷ b ∷ c ∷ []) group after long g h = absurd (omega arith)
decoded_step (a ∷ b ∷ c ∷ d ∷ []) group after long g h = absurd (omega arith)
decoded_step (a ∷ b ∷ c ∷ d ∷ e ∷ rest) group after long g h =
    whole ∙ ap (λ (l : List ℕ). cond (ltb (group_value l) (2 ^ 32))
    (with_front (to_be_bytes w32 (group_value l)) (decoded_groups rest)) (Err Overflow)) (sym g)
    ∙ ap (λ (l : List ℕ). cond (ltb (group_value group) (2 ^ 32))
    (with_front (to_be_bytes w32 (group_value group)) (decoded_groups l)) (Err Overflow)) (sym h)
  where
    by : (x y : Bool) → cond (x && y)
        (Ok (to_be_bytes w32 (group_value (a ∷ b ∷ c ∷ d ∷ e ∷ [])) ++ flat_map group_bytes (fives rest)))
        (Err Overflow)
        ≡ cond x (with_front (to_be_bytes w32 (group_value (a ∷ b ∷ c ∷ d ∷ e ∷ [])))
        (cond y (Ok (flat_map group_bytes (fives rest))) (Err Overflow))) (Err Overflow)
    by true true = refl
    by true false = refl
    by false y = refl

    whole : decoded_groups (a ∷ b ∷ c ∷ d ∷ e ∷ rest) ≡ cond
        (ltb (group_value (a ∷ b ∷ c ∷ d ∷ e ∷ [])) (2 ^ 32))
        (with_front (to_be_bytes w32 (group_value (a ∷ b ∷ c ∷ d ∷ e ∷ []))) (decoded_groups rest))
        (Err Overflow)
    whole = ap (λ (l : List ℕ). cond (fits (a ∷ b ∷ c ∷ d ∷ e ∷ []) && list_all fits (fives rest)) (Ok l)
        (Err Overflow)) (flat_map-cons group_bytes (a ∷ b ∷ c ∷ d ∷ e ∷ []) (fives rest))
        ∙ by (fits (a ∷ b ∷ c ∷ d ∷ e ∷ [])) (list_all fits (fives rest))

front_front : (front more : List ℕ) (read : Result (List ℕ) Base85Fault)
    → with_front front (with_front more read) ≡ with_front (front ++ more) read
front_front front more (Ok bytes) = ap (λ (l : List ℕ). Ok l) (sym (append_assoc front more bytes))
front_front front more (Err fault) = refl

fits_is : (n m : ℕ) (b : Bool) → ltb n (2 ^ 32) ≡ b → fitting n ≡ Ok m → (b ≡ true) × (n ≡ m)
fits_is n m true e h = (refl, inside n m (sym (ap (λ (c : Bool). cond c (Ok n) (Err Overflow)) e) ∙ h))
  where
    inside : (x y : ℕ) → same x ≡ same y → x ≡ y
    inside x y e = cc
fits_is n m false e h = absurd (clash m (sym (ap (λ (c : Bool). cond c (Ok n) (Err Overflow)) e) ∙ h))

-- one more group
pub goes_on : (bytes new rest group after : List ℕ) (n : ℕ) (all : Result (List ℕ) Base85Fault)
    → 5 ≤ length rest → group ≡ take 5 rest → after ≡ drop 5 rest → fitting (group_value group) ≡ Ok n
    → new ≡ bytes ++ to_be_bytes w32 n → with_front bytes (decoded_groups rest) ≡ all
    → with_front new (decoded_groups after) ≡ all
goes_on bytes new rest group after n all long g h fit e whole =
    let is = fits_is (group_value group) n (ltb (group_value group) (2 ^ 32)) refl fit in
    ap (λ (l : List ℕ). with_front l (decoded_groups after)) e
    ∙ sym (front_front bytes (to_be_bytes w32 n) (decoded_groups after))
    ∙ ap (λ (v : ℕ). with_front bytes (with_front (to_be_bytes w32 v) (decoded_groups after))) (sym is.1)
    ∙ sym (ap (with_front bytes) (decoded_step rest group after long g h
    ∙ ap (λ (c : Bool). cond c
    (with_front (to_be_bytes w32 (group_value group)) (decoded_groups after)) (Err Overflow)) is.0))
    ∙ whole
