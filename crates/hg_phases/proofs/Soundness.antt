-- The rows, their roots and the way back stay sound.
use Rattle.std.proofs.Common.{◌≡◌, ℕ, ◌+◌, ◌<◌, ◌≤◌, ◌^◌, cond, List, [], ◌∷◌, ◌++◌, length, Bool}
use Rattle.std.proofs.Common.{Option, None, Some, sym, ap, ◌∙◌, subst, arith}
use Rattle.std.specs.List.{All}
use Rattle.std.proofs.lemmas.List.Elements.{All-nil, All-same}
use Rattle.hg_types.specs.declared.phase.Phase.{Phase}
use Rattle.hg_types.specs.declared.phase.Phase.TheVariants.{Draft, Secret}
use Rattle.hg_phases.specs.declared.standing.Standing.{Standing}
use Rattle.hg_phases.specs.declared.tape.Replaced.{Replaced}
use Rattle.hg_log.specs.Changeset.{Changeset}
use Rattle.hg_phases.specs.Phases.{Phasing, AreFor}
use Rattle.hg_phases.specs.Standing.{is_told, told, phases_told}
use Rattle.hg_phases.specs.code.Tape.{IsSound}
use Rattle.hg_phases.proofs.Told.{told_push}

-- without a savepoint
pub sound_unsaved : (rows : List Standing) (kept : List Replaced) (saved : ℕ) → saved ≡ 0 → kept ≡ []
    → length rows ≤ 2 ^ 32 → IsSound rows kept saved
sound_unsaved rows kept saved none empty few = record {
  few = few;
  within = omega (arith, none);
  replaced = All-same (λ (change : Replaced). change.row < saved) kept [] empty
      (All-nil (λ (change : Replaced). change.row < saved));
}

-- other rows, with the same way back
pub sound_changed : (rows new : List Standing) (kept more : List Replaced) (saved savepoint : ℕ)
    → IsSound rows kept saved → length new ≤ 2 ^ 32 → length rows ≤ length new → savepoint ≡ saved
    → All (λ change. change.row < savepoint) more → IsSound new more savepoint
sound_changed rows new kept more saved savepoint sound few longer same replaced = record {
  few = few;
  within = omega (arith, sound.within, longer, same);
  replaced = replaced;
}

-- the roots with one row more
pub told_added : (t : Phase) (rows new : List Standing) (x : Standing) (n : ℕ) → n ≡ length rows
    → new ≡ rows ++ x ∷ [] → told t new ≡ told t rows ++ cond (is_told t x) (n ∷ []) []
told_added t rows new x n at new_is =
    let here : 0 + length rows ≡ n = omega (arith, at) in
    ap (told t) new_is
    ∙ told_push t 0 rows x
    ∙ ap (λ (k : ℕ). told t rows ++ cond (is_told t x) (k ∷ []) []) here

-- what the rows of a savepoint tell, where there is one
abbrev pub saved_as : Bool → List Standing → Option Phasing
saved_as is_saved rows =
    cond is_saved (Some (record {
      phases = phases_told rows;
      draft = told Draft rows;
      secret = told Secret rows;
    })) None

-- the parts of what is kept, one by one
pub for_parts : (rows : List Changeset) (phases others : List Phase) (draft drafts secret secrets : List ℕ)
    → phases ≡ others → draft ≡ drafts → secret ≡ secrets
    → AreFor rows (record { phases = others; draft = drafts; secret = secrets })
    → AreFor rows (record { phases = phases; draft = draft; secret = secret })
for_parts rows phases others draft drafts secret secrets p d s fits =
    subst (λ ps. AreFor rows (record { phases = ps; draft = draft; secret = secret })) (sym p)
    (subst (λ ks. AreFor rows (record { phases = others; draft = ks; secret = secret })) (sym d)
    (subst (λ ks. AreFor rows (record { phases = others; draft = drafts; secret = ks })) (sym s) fits))
