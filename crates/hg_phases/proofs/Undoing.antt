-- The way back: what is kept leads back to the rows of the savepoint.
use Rattle.std.proofs.Common.{◌≡◌, ℕ, suc, ◌<◌, ◌≤◌, List, [], ◌∷◌, ◌++◌, length, take}
use Rattle.std.proofs.Common.{set, get_or, refl, sym, ap, ◌∙◌, inl, inr, arith}
use Rattle.std.specs.List.{All}
use Rattle.std.proofs.Common.{subst, ltb}
use Rattle.std.proofs.lemmas.Bool.{cases_lt, cases_Bool, cond-true, cond-false, ltb-true, ltb-false}
use Rattle.std.proofs.lemmas.List.Elements.{All-append, All-push, filter_passes}
use Rattle.std.proofs.lemmas.List.{set-set, set-get_or, take-set-le}
use Rattle.std.proofs.lemmas.List.{take-append-le, length-set, get_or_append_left}
use Rattle.std.proofs.lemmas.List.{length-map, length_push, map_push, get_or-map}
use Rattle.std.proofs.Math.Seq.{take-set-lt}
use Rattle.hg_phases.specs.declared.standing.Standing.{Standing}
use Rattle.hg_phases.specs.declared.standing.Standing.TheVariants.{PublicOnPublic}
use Rattle.hg_phases.specs.declared.tape.Replaced.{Replaced}
use Rattle.hg_phases.specs.Standing.{standing_at}
use Rattle.hg_phases.specs.code.Tape.{undone, base_of, of_saved, rows_of, TapeFollows}

-- the last change comes back first
pub undone_push : (changes : List Replaced) (change : Replaced) (rows : List Standing)
    → undone (changes ++ change ∷ []) rows ≡ undone changes (set rows change.row change.standing)
undone_push [] change rows = refl
undone_push (first ∷ changes) change rows =
    ap (λ (xs : List Standing). set xs first.row first.standing) (undone_push changes change rows)

pub undone_length : (changes : List Replaced) (rows : List Standing)
    → length (undone changes rows) ≡ length rows
undone_length [] rows = refl
undone_length (change ∷ changes) rows = length-set (undone changes rows) change.row change.standing
    ∙ undone_length changes rows

set_front : (m : ℕ) (xs ys : List Standing) (i : ℕ) (x : Standing) → take m xs ≡ take m ys
    → take m (set xs i x) ≡ take m (set ys i x)
set_front m xs ys i x same = elim (cases_lt i m) [
  | inl low ↦ take-set-lt m xs i x low ∙ ap (λ (zs : List Standing). set zs i x) same
      ∙ sym (take-set-lt m ys i x low)
  | inr high ↦ take-set-le m xs i x high ∙ same ∙ sym (take-set-le m ys i x high)
]

-- rows with the same front lead back to the same front
pub undone_front : (m : ℕ) (changes : List Replaced) (xs ys : List Standing) → take m xs ≡ take m ys
    → take m (undone changes xs) ≡ take m (undone changes ys)
undone_front m [] xs ys same = same
undone_front m (change ∷ changes) xs ys same =
    set_front m (undone changes xs) (undone changes ys) change.row change.standing
    (undone_front m changes xs ys same)

-- a row more after the savepoint
pub base_add : (saved : ℕ) (rows more : List Standing) (kept : List Replaced) → saved ≤ length rows
    → base_of saved (rows ++ more) kept ≡ base_of saved rows kept
base_add saved rows more kept within =
    undone_front saved kept (rows ++ more) rows (take-append-le saved rows more within)

undone_append : (changes more : List Replaced) (rows : List Standing)
    → undone (changes ++ more) rows ≡ undone changes (undone more rows)
undone_append [] more rows = refl
undone_append (first ∷ changes) more rows =
    ap (λ (xs : List Standing). set xs first.row first.standing) (undone_append changes more rows)

-- changes of rows after the savepoint do not show in its rows
undone_saved : (saved : ℕ) (changes : List Replaced) (rows : List Standing)
    → take saved (undone (of_saved saved changes) rows) ≡ take saved (undone changes rows)
undone_saved saved [] rows = refl
undone_saved saved (change ∷ changes) rows = elim (cases_Bool (ltb change.row saved)) [
  | inl before ↦
      ap (λ (cs : List Replaced). take saved (undone cs rows))
      (cond-true (ltb change.row saved) (change ∷ of_saved saved changes)
      (of_saved saved changes) before)
      ∙ set_front saved (undone (of_saved saved changes) rows) (undone changes rows) change.row
      change.standing (undone_saved saved changes rows)
  | inr behind ↦
      ap (λ (cs : List Replaced). take saved (undone cs rows))
      (cond-false (ltb change.row saved) (change ∷ of_saved saved changes)
      (of_saved saved changes) behind)
      ∙ undone_saved saved changes rows
      ∙ sym (take-set-le saved (undone changes rows) change.row change.standing
      (ltb-false change.row saved behind))
]

-- the rows of the savepoint come back over the changes that are kept
pub base_kept : (saved : ℕ) (rows : List Standing) (kept changes : List Replaced)
    → base_of saved rows (kept ++ of_saved saved changes) ≡ base_of saved (undone changes rows) kept
base_kept saved rows kept changes =
    ap (take saved) (undone_append kept (of_saved saved changes) rows)
    ∙ undone_front saved kept (undone (of_saved saved changes) rows) (undone changes rows)
    (undone_saved saved changes rows)

pub all_saved : (saved : ℕ) (kept changes : List Replaced) → All (λ (r : Replaced). r.row < saved) kept
    → All (λ (r : Replaced). r.row < saved) (kept ++ of_saved saved changes)
all_saved saved kept changes all =
    All-append (λ (r : Replaced). r.row < saved) kept (of_saved saved changes) all
    (λ k d k_in. ltb-true (get_or (of_saved saved changes) k d).row saved
    (filter_passes (λ (r : Replaced). ltb r.row saved) changes k d k_in))

-- where all rows that changed are of the savepoint, all changes are
pub saved_all : (saved : ℕ) (changes : List Replaced) → All (λ (r : Replaced). r.row < saved) changes
    → of_saved saved changes ≡ changes
saved_all saved [] all = refl
saved_all saved (change ∷ changes) all = elim (cases_Bool (ltb change.row saved)) [
  | inl before ↦
      cond-true (ltb change.row saved) (change ∷ of_saved saved changes)
      (of_saved saved changes) before
      ∙ ap (λ (cs : List Replaced). change ∷ cs)
      (saved_all saved changes (λ k d low. all (suc k) d (omega (arith, low))))
  | inr behind ↦ absurd (omega (arith, ltb-false change.row saved behind, all 0 change (omega arith)))
]

-- the rows of changes
pub rows_push : (changes : List Replaced) (change : Replaced)
    → rows_of (changes ++ change ∷ []) ≡ rows_of changes ++ change.row ∷ []
rows_push changes change = map_push (λ (r : Replaced). r.row) changes change

pub rows_length : (changes : List Replaced) → length (rows_of changes) ≡ length changes
rows_length changes = length-map changes (λ (r : Replaced). r.row)

pub rows_read : (changes : List Replaced) (place : ℕ) (change : Replaced) → place < length changes
    → change ≡ get_or changes place change → change.row ≡ get_or (rows_of changes) place 0
rows_read changes place change low is =
    ap (λ (r : Replaced). r.row) is
    ∙ sym (get_or-map (λ (r : Replaced). r.row) changes place change 0 low)

-- nothing changed
pub follows_same : (rows : List Standing) (changes : List Replaced) → TapeFollows rows changes rows changes
follows_same rows changes = record {
  as_long = refl;
  back = refl;
  within = λ all. all;
  longer = omega arith;
  first = λ k low. refl;
}

-- changes after changes
pub follows_on : (one two three : List Standing) (first second third : List Replaced)
    → TapeFollows one first two second → TapeFollows two second three third → TapeFollows one first three third
follows_on one two three first second third f g = record {
  as_long = g.as_long ∙ f.as_long;
  back = g.back ∙ f.back;
  within = λ all. subst (λ (n : ℕ). All (λ (r : Replaced). r.row < n) third) f.as_long
      (g.within (subst (λ (n : ℕ). All (λ (r : Replaced). r.row < n) second) (sym f.as_long) (f.within all)));
  longer = omega (arith, f.longer, g.longer);
  first = λ k low. g.first k (omega (arith, low, f.longer)) ∙ f.first k low;
}

-- a row that is replaced
pub follows_set : (rows : List Standing) (changes : List Replaced) (row : ℕ) (was standing : Standing)
    → row < length rows → was ≡ standing_at rows row
    → TapeFollows rows changes (set rows row standing) (changes ++ record { row = row; standing = was } ∷ [])
follows_set rows changes row was standing within is = record {
  as_long = length-set rows row standing;
  back = undone_push changes (record { row = row; standing = was }) (set rows row standing)
      ∙ ap (undone changes) (set-set rows row standing was
      ∙ ap (set rows row) is ∙ set-get_or rows row PublicOnPublic);
  within = λ all. All-push (λ (r : Replaced). r.row < length rows) changes
      (record { row = row; standing = was }) all within;
  longer = omega (arith, length_push changes (record { row = row; standing = was }));
  first = λ k low. ap (λ (ks : List ℕ). get_or ks k 0) (rows_push changes (record { row = row; standing = was }))
      ∙ get_or_append_left (rows_of changes) (row ∷ []) 0 k (omega (arith, low, rows_length changes));
}
