-- Rows that are passed over in pieces, and the roots of draft among them.
use Rattle.std.proofs.Common.{◌≡◌, ℕ, zero, suc, ◌+◌, ◌*◌, ◌<◌, ◌≤◌, Bool, true, false, cond, ◌||◌, List, []}
use Rattle.std.proofs.Common.{◌∷◌, ◌++◌, length, take, drop, get_or, refl, sym, ap, ◌∙◌, add_comm, arith}
use Rattle.std.specs.List.{list_any}
use Rattle.std.specs.Simd.{first_chunks}
use Rattle.std.proofs.Math.Nat.{suc-mul}
use Rattle.std.proofs.Math.Seq.{take-add}
use Rattle.std.proofs.lemmas.Bool.{cond_both}
use Rattle.std.proofs.lemmas.List.{append_assoc, drop-drop, length-take-le, take_more, take-append-drop}
use Rattle.hg_types.specs.declared.phase.Phase.TheVariants.{Draft}
use Rattle.hg_phases.specs.declared.standing.Standing.{Standing}
use Rattle.hg_phases.specs.declared.standing.Standing.TheVariants.{PublicOnPublic}
use Rattle.hg_phases.specs.Standing.{is_draft_root, told, told_from}
use Rattle.hg_phases.proofs.Told.{told_append, told_push}

pub piece_at : {X : Type 0} (n k i : ℕ) (xs : List X) → i < k
    → get_or (first_chunks n k xs) i [] ≡ take n (drop (i * n) xs)
piece_at n zero i xs low = absurd (omega (arith, low))
piece_at n (suc k) zero xs low =
    let none : 0 ≡ 0 * n = omega arith in
    ap (λ (at : ℕ). take n (drop at xs)) none
piece_at n (suc k) (suc i) xs low =
    let next : n + i * n ≡ suc i * n = add_comm n (i * n) ∙ sym (suc-mul i n) in
    piece_at n k i (drop n xs) (omega (arith, low))
    ∙ ap (take n) (drop-drop (i * n) n xs)
    ∙ ap (λ (at : ℕ). take n (drop at xs)) next

-- one row more, where it is a root and where it is none
pub root_more : (first place : ℕ) (rows : List Standing) (before now next : List ℕ) (b : Bool)
    → place < length rows → b ≡ is_draft_root (get_or rows place PublicOnPublic)
    → now ≡ before ++ told_from Draft first (take place rows)
    → next ≡ now ++ cond b ((first + place) ∷ []) []
    → next ≡ before ++ told_from Draft first (take (place + 1) rows)
root_more first place rows before now next b low asked so more =
    let row = get_or rows place PublicOnPublic in
    let size : length (take place rows) ≡ place = length-take-le place rows (omega (arith, low)) in
    more
    ∙ ap (λ (ks : List ℕ). ks ++ cond b ((first + place) ∷ []) []) so
    ∙ append_assoc before (told_from Draft first (take place rows)) (cond b ((first + place) ∷ []) [])
    ∙ ap (λ (ks : List ℕ). before ++ ks) (
    ap (λ (c : Bool). told_from Draft first (take place rows) ++ cond c ((first + place) ∷ []) []) asked
    ∙ ap (λ (k : ℕ). told_from Draft first (take place rows)
    ++ cond (is_draft_root row) ((first + k) ∷ []) []) (sym size)
    ∙ sym (told_push Draft first (take place rows) row)
    ∙ ap (told_from Draft first) (sym (take_more rows place PublicOnPublic low)))

-- rows without a root tell none
pub none_told : (first : ℕ) (rows : List Standing) → list_any is_draft_root rows ≡ false
    → told_from Draft first rows ≡ []
unfolding told_from
none_told first [] none = refl
none_told first (row ∷ rows) none =
    let rest = told_from Draft (first + 1) rows in
    let any = list_any is_draft_root rows in
    cond_both (is_draft_root row) (first ∷ rest) rest (λ ks. ks ≡ [])
    (λ is. absurd (let e : true ≡ false = sym (ap (λ (b : Bool). b || any) is) ∙ none in cc))
    (λ is. none_told (first + 1) rows (sym (ap (λ (b : Bool). b || any) is) ∙ none))

-- a piece more
pub piece_told : (rows : List Standing) (i : ℕ) (now next : List ℕ) → (i + 1) * 64 ≤ length rows
    → now ≡ told Draft (take (i * 64) rows)
    → next ≡ now ++ told_from Draft (i * 64) (take 64 (drop (i * 64) rows))
    → next ≡ told Draft (take ((i + 1) * 64) rows)
piece_told rows i now next room so more =
    let size : length (take (i * 64) rows) ≡ i * 64 = length-take-le (i * 64) rows (omega (arith, room)) in
    let here : 0 + length (take (i * 64) rows) ≡ i * 64 = omega (arith, size) in
    let end : i * 64 + 64 ≡ (i + 1) * 64 = omega arith in
    more
    ∙ ap (λ (ks : List ℕ). ks ++ told_from Draft (i * 64) (take 64 (drop (i * 64) rows))) so
    ∙ ap (λ (k : ℕ). told Draft (take (i * 64) rows) ++ told_from Draft k (take 64 (drop (i * 64) rows)))
    (sym here)
    ∙ sym (told_append Draft 0 (take (i * 64) rows) (take 64 (drop (i * 64) rows)))
    ∙ ap (told Draft) (sym (take-add (i * 64) 64 rows))
    ∙ ap (λ (k : ℕ). told Draft (take k rows)) end

-- the rows that are left
pub rest_told : (rows : List Standing) (at : ℕ) (now next : List ℕ) → at ≤ length rows
    → now ≡ told Draft (take at rows) → next ≡ now ++ told_from Draft at (drop at rows)
    → next ≡ told Draft rows
rest_told rows at now next room so more =
    let size : length (take at rows) ≡ at = length-take-le at rows room in
    let here : 0 + length (take at rows) ≡ at = omega (arith, size) in
    more
    ∙ ap (λ (ks : List ℕ). ks ++ told_from Draft at (drop at rows)) so
    ∙ ap (λ (k : ℕ). told Draft (take at rows) ++ told_from Draft k (drop at rows)) (sym here)
    ∙ sym (told_append Draft 0 (take at rows) (drop at rows))
    ∙ ap (told Draft) (take-append-drop at rows)
