-- What an advance makes of the phase of each row, by its ancestors.
use Rattle.std.proofs.Common.{◌≡◌, ℕ, ◌<◌, ◌≤◌, true, false, List, length, Option}
use Rattle.std.proofs.Common.{refl, ap, ◌∙◌, inl, inr, arith}
use Rattle.std.specs.List.{Contains}
use Rattle.std.proofs.lemmas.Bool.{cases_lt, cond-true, cond-false, false_from_ne_true}
use Rattle.std.proofs.lemmas.List.Folds.{list_any_at, Any-from_list_any}
use Rattle.std.proofs.lemmas.List.FromFn.{length-map-range_with_len, get_or-map-range_with_len}
use Rattle.std.proofs.lemmas.Option.{slice_get_past}
use Rattle.hg_types.specs.declared.phase.Phase.{Phase}
use Rattle.hg_types.specs.declared.phase.Phase.TheVariants.{Public}
use Rattle.hg_log.specs.Ancestors.{IsAncestor}
use Rattle.hg_log.specs.Changeset.{Changeset}
use Rattle.hg_log.specs.Parents.{Leads, leads, parents_in, parents_of}
use Rattle.hg_log.specs.Parents.Leads.{itself, of_parent}
use Rattle.hg_log.specs.Rows.{AreLawful as AreLawfulRows}
use Rattle.hg_log.proofs.CallerLemmas.{ordered, leads_test, leads_ancestor, ancestor_leads}
use Rattle.hg_phases.specs.Order.{lesser, phase_at}
use Rattle.hg_phases.specs.Phases.{advanced, advanced_at, is_reached}

-- ---- each row

module _ (parents : ℕ → Option ℕ × Option ℕ) (target : Phase) (heads : List ℕ) (phases : List Phase) where
  pub as_many : length (advanced parents target heads phases) ≡ length phases
  unfolding advanced
  as_many = length-map-range_with_len (advanced_at parents target heads phases) 0 (length phases)

  at_row : (r : ℕ) → r < length phases
      → phase_at (advanced parents target heads phases) r ≡ advanced_at parents target heads phases r
  unfolding advanced
  at_row r within = get_or-map-range_with_len (advanced_at parents target heads phases) 0 (length phases) r r
      Public within (omega arith)

-- ---- what is reached

-- no row leads to a number that no row has, but that number itself
none_past : (rows : List Changeset) (a r : ℕ) → length rows ≤ r → Leads (parents_of rows) a r → a ≡ r
unfolding parents_of
none_past rows a r past itself = refl
none_past rows a r past (of_parent p q is more) =
    let at = ap (parents_in rows) (slice_get_past rows q past) in
    elim is [
      | inl e ↦ let no = ap (λ (x : Option ℕ × Option ℕ). x.0) at in absurd cc
      | inr e ↦ let no = ap (λ (x : Option ℕ × Option ℕ). x.1) at in absurd cc
    ]

-- what leads to a number and is a row is an ancestor
ancestor_of_head : (rows : List Changeset) (a r : ℕ) → AreLawfulRows rows → a < length rows
    → Leads (parents_of rows) a r → IsAncestor rows a r
ancestor_of_head rows a r lawful within is = elim (cases_lt r (length rows)) [
  | inl less ↦ leads_ancestor rows lawful a r less is
  | inr past ↦ let same = none_past rows a r past is in absurd (omega arith)
]

is_one : (rows : List Changeset) (heads : List ℕ) (head r : ℕ) → AreLawfulRows rows → Contains heads head
    → IsAncestor rows r head → is_reached (parents_of rows) heads r ≡ true
is_one rows heads head r lawful (k, low, is) ancestor =
    let test : leads (parents_of rows) r head ≡ true =
    (leads_test (parents_of rows) (ordered rows lawful) r head).1 (ancestor_leads rows lawful r head ancestor) in
    list_any_at (λ (h : ℕ). leads (parents_of rows) r h) heads k head low
    (ap (leads (parents_of rows) r) is ∙ test)

is_none : (rows : List Changeset) (heads : List ℕ) (r : ℕ) → AreLawfulRows rows → r < length rows
    → ((head : ℕ) → Contains heads head → ¬ (IsAncestor rows r head))
    → is_reached (parents_of rows) heads r ≡ false
is_none rows heads r lawful within none =
    false_from_ne_true (is_reached (parents_of rows) heads r) (λ is.
    let any = Any-from_list_any (λ (h : ℕ). leads (parents_of rows) r h) heads is in
    let leads_to : Leads (parents_of rows) r any.1 =
    (leads_test (parents_of rows) (ordered rows lawful) r any.1).0 any.4 in
    none any.1 (any.0, any.2, any.3) (ancestor_of_head rows r any.1 lawful within leads_to))

-- ---- the laws

pub reached_get_target : (rows : List Changeset) (target : Phase) (heads : List ℕ) (phases : List Phase)
    (head r : ℕ) → AreLawfulRows rows → r < length phases → Contains heads head → IsAncestor rows r head
    → phase_at (advanced (parents_of rows) target heads phases) r ≡ lesser target (phase_at phases r)
reached_get_target rows target heads phases head r lawful within among ancestor =
    at_row (parents_of rows) target heads phases r within
    ∙ cond-true (is_reached (parents_of rows) heads r) (lesser target (phase_at phases r)) (phase_at phases r)
    (is_one rows heads head r lawful among ancestor)

pub others_stay : (rows : List Changeset) (target : Phase) (heads : List ℕ) (phases : List Phase) (r : ℕ)
    → AreLawfulRows rows → length phases ≤ length rows → r < length phases
    → ((head : ℕ) → Contains heads head → ¬ (IsAncestor rows r head))
    → phase_at (advanced (parents_of rows) target heads phases) r ≡ phase_at phases r
others_stay rows target heads phases r lawful few within none =
    at_row (parents_of rows) target heads phases r within
    ∙ cond-false (is_reached (parents_of rows) heads r) (lesser target (phase_at phases r)) (phase_at phases r)
    (is_none rows heads r lawful (omega arith) none)
