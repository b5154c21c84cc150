-- The way back: a change more, and the last one taken back.
use Rattle.std.proofs.Common.{◌≡◌, ℕ, ◌+◌, ◌≤◌, Bool, true, false, ◌&&◌, cond, List, [], ◌∷◌, ◌++◌, length, reverse}
use Rattle.std.proofs.Common.{Option, Some, None, refl, sym, ap, ◌∙◌, subst, arith, length-append}
use Rattle.std.specs.Option.{option_to_list}
use Rattle.std.specs.Cmp.{first_so, second_so}
use Rattle.std.proofs.lemmas.List.{append-nil, reverse-append}
use Rattle.hg_keys.specs.declared.bookmarks.Change.{Change}
use Rattle.hg_keys.specs.Bookmarks.{Pairs}
use Rattle.hg_keys.specs.code.Changes.{undone, all_undone, base_of, can_undo, can_undo_all, IsSound}

pub both : (p q : Bool) → p ≡ true → q ≡ true → (p && q) ≡ true
both true q h k = k
both false q h k = h

-- a change that leads back to the pairs before it leads back to what they lead back to
pub base_kept : {A : Type 0} (changes : List (Change A)) (change : Option (Change A)) (new old : Pairs)
    → all_undone (option_to_list change) new ≡ old
    → base_of (changes ++ option_to_list change) new ≡ base_of changes old
base_kept changes None new old back = ap (λ cs. base_of cs new) (append-nil changes)
    ∙ ap (base_of changes) back
base_kept changes (Some change) new old back =
    ap (λ cs. all_undone cs new) (reverse-append changes (change ∷ []))
    ∙ ap (all_undone (reverse changes)) back

pub back_kept : {A : Type 0} (changes : List (Change A)) (change : Option (Change A)) (new old : Pairs)
    → all_undone (option_to_list change) new ≡ old
    → can_undo_all (option_to_list change) new ≡ true
    → can_undo_all (reverse changes) old ≡ true
    → can_undo_all (reverse (changes ++ option_to_list change)) new ≡ true
back_kept changes None new old back can before =
    ap (λ cs. can_undo_all (reverse cs) new) (append-nil changes)
    ∙ ap (can_undo_all (reverse changes)) back ∙ before
back_kept changes (Some change) new old back can before =
    ap (λ cs. can_undo_all cs new) (reverse-append changes (change ∷ []))
    ∙ both _ _ (first_so (can_undo change new) true can) (ap (can_undo_all (reverse changes)) back
    ∙ before)

-- there is at most one change more
one_more : {A : Type 0} (changes : List (Change A)) (change : Option (Change A))
    → length (changes ++ option_to_list change) ≤ length changes + 1
one_more changes None = omega (arith, length-append changes [])
one_more changes (Some change) = omega (arith, length-append changes (change ∷ []))

-- all stands as before, with at least that room
pub sound_same : {A : Type 0} (pairs new : Pairs) (changes same : List (Change A)) (room more : ℕ)
    (is_saved : Bool) → new ≡ pairs → same ≡ changes → (is_saved ≡ true → length changes ≤ more)
    → IsSound pairs changes room is_saved → IsSound new same more is_saved
sound_same pairs new changes same room more is_saved pairs_stay changes_stay le sound =
    let stays : IsSound pairs changes more is_saved = record {
      back = sound.back;
      room = le;
    } in
    subst (λ cs. IsSound new cs more is_saved) (sym changes_stay)
    (subst (λ ps. IsSound ps changes more is_saved) (sym pairs_stay) stays)

-- where there is no savepoint, no way back is wanted
pub sound_unsaved : {A : Type 0} (pairs : Pairs) (changes : List (Change A)) (room : ℕ) (is_saved : Bool)
    → is_saved ≡ false → IsSound pairs changes room is_saved
sound_unsaved pairs changes room is_saved unsaved = record {
  back = λ saved. absurd cc;
  room = λ saved. absurd cc;
}

-- nor is there what the bookmarks were at the savepoint
pub no_savepoint : (is_saved : Bool) (base other : Pairs) → is_saved ≡ false
    → cond is_saved (Some base) None ≡ cond is_saved (Some other) None
no_savepoint true base other unsaved = absurd cc
no_savepoint false base other unsaved = refl

-- after a change that is kept where there is a savepoint
pub sound_kept : {A : Type 0} (old new : Pairs) (changes : List (Change A)) (change : Option (Change A))
    (room more : ℕ) (is_saved : Bool) → is_saved ≡ true → IsSound old changes room is_saved
    → length changes + 1 ≤ more → all_undone (option_to_list change) new ≡ old
    → can_undo_all (option_to_list change) new ≡ true
    → IsSound new (changes ++ option_to_list change) more is_saved
sound_kept old new changes change room more is_saved saved sound le back can = record {
  back = λ _. back_kept changes change new old back can (sound.back saved);
  room = λ _. omega (arith, one_more changes change, le);
}

-- the pairs at the savepoint stay
pub savepoint_kept : {A : Type 0} (old new : Pairs) (changes : List (Change A)) (change : Option (Change A))
    (is_saved : Bool) → all_undone (option_to_list change) new ≡ old
    → cond is_saved (Some (base_of (changes ++ option_to_list change) new)) None ≡ cond is_saved
    (Some (base_of changes old)) None
savepoint_kept old new changes change is_saved back =
    ap (λ (ps : Pairs). cond is_saved (Some ps) None) (base_kept changes change new old back)

-- the last change taken back
pub base_popped : {A : Type 0} (changes rest : List (Change A)) (change : Change A) (pairs : Pairs)
    → changes ≡ rest ++ change ∷ [] → base_of rest (undone change pairs) ≡ base_of changes pairs
base_popped changes rest change pairs is =
    sym (ap (λ cs. base_of cs pairs) is ∙ ap (λ cs. all_undone cs pairs) (reverse-append rest (change ∷ [])))

popped : {A : Type 0} (changes rest : List (Change A)) (change : Change A) (pairs : Pairs)
    → changes ≡ rest ++ change ∷ [] → can_undo_all (reverse changes) pairs ≡ true
    → can_undo_all (change ∷ reverse rest) pairs ≡ true
popped changes rest change pairs is can =
    ap (λ cs. can_undo_all cs pairs) (sym (ap reverse is ∙ reverse-append rest (change ∷ []))) ∙ can

pub can_rest : {A : Type 0} (changes rest : List (Change A)) (change : Change A) (pairs new : Pairs)
    → changes ≡ rest ++ change ∷ [] → new ≡ undone change pairs
    → can_undo_all (reverse changes) pairs ≡ true → can_undo_all (reverse rest) new ≡ true
can_rest changes rest change pairs new is undone_is can =
    ap (can_undo_all (reverse rest)) undone_is
    ∙ second_so (can_undo change pairs) (can_undo_all (reverse rest) (undone change pairs))
    (popped changes rest change pairs is can)
