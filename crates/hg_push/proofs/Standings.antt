-- What the rows and the journal tell of a push.
use Rattle.std.proofs.Common.{ℕ, true, false, ◌≡◌, ◌==◌, ◌<◌, ◌≤◌, arith, List, refl, sym, ◌∙◌, ap, subst, Option, Some, None}
use Rattle.std.specs.Prelude.{IsSome, position}
use Rattle.std.specs.List.{list_any}
use Rattle.std.proofs.Math.ListN.{get_or}
use Rattle.std.proofs.lemmas.Bool.Decides.{nat_tests}
use Rattle.hg_push.specs.declared.outcome.Outcome.{Outcome}
use Rattle.hg_push.specs.declared.outcome.Outcome.TheVariants.{Done, Aborted}
use Rattle.hg_push.specs.declared.row.Row.{Row}
use Rattle.hg_push.specs.declared.row.State.{State}
use Rattle.hg_push.specs.declared.row.State.TheVariants.{Open, Closed}
use Rattle.hg_types.specs.declared.part.Part.{Part}
use Rattle.hg_push.specs.declared.outcome.Standing.TheVariants.{Done as done_now, Aborted as aborted_now}
use Rattle.hg_push.specs.History.{History, Running, parts, outcome}
use Rattle.hg_push.specs.Changed.{is_done}
use Rattle.hg_push.specs.Rows.{RowTells, TellsState, standing_of}
use Rattle.hg_push.specs.code.Rows.{standing_in}
use Rattle.hg_push.specs.Book.{Book, HoldsHistory, is_between, is_opened}
use Rattle.hg_push.proofs.Finding.{find_nowhere, found_at}
use Rattle.hg_push.proofs.Journals.{done_journal}

is_given : (first next p : ℕ) → first ≤ p → p < next → is_between first next p ≡ true
is_given first next p low high = grind (arith, nat_tests)

-- a number between the first one and the next is not unknown
pub not_unknown : {X : Type 0} (first next p : ℕ) → first ≤ p → p < next → is_between first next p ≡ false → X
not_unknown first next p low high unknown = let given = is_given first next p low high in absurd cc

told_standing : {A D E : Type 0} (ps : List (Part A)) (how : Option (Outcome D E)) (state : State D E A)
    → TellsState ps how state → standing_in state ≡ standing_of how
told_standing ps how (Open staged) tells = rw tells.0
told_standing ps how (Closed ending) tells = rw tells

pub row_tells : {A R D E : Type 0} (run : Running A R D E) (first : R) (h : History A) (b : Book A R D E)
    (p i : ℕ) (r : Row D E A) → HoldsHistory run first h b → is_opened b p ≡ true
    → position (λ x. x.push == p) b.rows ≡ Some i → r ≡ get_or b.rows i r
    → standing_in r.state ≡ standing_of (outcome run first p h)
row_tells run first h b p i r holds opened found is =
    let at = found_at (λ x. x.push == p) b.rows i r found is in
    told_standing (parts p h) (outcome run first p h) r.state
    (subst (λ o. RowTells (parts p h) (outcome run first p h) o) at.here (holds.rows p opened))

ended_standing : {D E : Type 0} (how : Option (Outcome D E)) → IsSome how
    → ((is_done how ≡ true → done_now ≡ standing_of how)
    × (is_done how ≡ false → aborted_now ≡ standing_of how))
ended_standing None ended = cc
ended_standing (Some (Done done)) ended = (λ h. refl, λ h. cc)
ended_standing (Some (Aborted reason)) ended = (λ h. cc, λ h. refl)

pub journal_tells : {A R D E : Type 0} (run : Running A R D E) (first : R) (h : History A) (b : Book A R D E)
    (p : ℕ) → HoldsHistory run first h b → is_opened b p ≡ true → position (λ x. x.push == p) b.rows ≡ None
    → (list_any (λ q. q == p) b.journal ≡ true → done_now ≡ standing_of (outcome run first p h))
    × (list_any (λ q. q == p) b.journal ≡ false → aborted_now ≡ standing_of (outcome run first p h))
journal_tells run first h b p holds opened none =
    let ended : IsSome (outcome run first p h) = subst (λ o. RowTells (parts p h) (outcome run first p h) o)
    (find_nowhere (λ x. x.push == p) b.rows none) (holds.rows p opened) in
    let cases = ended_standing (outcome run first p h) ended in
    let same : list_any (λ q. q == p) b.journal ≡ is_done (outcome run first p h) =
    ap (λ s. list_any (λ q. q == p) s.journal) (sym holds.state) ∙ done_journal run first p h in
    (λ t. cases.0 (sym same ∙ t), λ f. cases.1 (sym same ∙ f))
