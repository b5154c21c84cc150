-- What proofs of other crates may cite of the phases of rows.
use Rattle.std.proofs.Common.{◌≡◌, ◌≢◌, ◌↔◌, ℕ, ◌+◌, ◌<◌, ◌≤◌, List, [], ◌++◌, length, take, Option, refl, sym, ap, ◌∙◌}
use Rattle.std.proofs.Common.{Contains, arith}
use Rattle.std.proofs.lemmas.List.{length_push}
use Rattle.std.proofs.lemmas.List.FromFn.{length-map-range_with_len}
use Rattle.hg_types.specs.declared.phase.Phase.{Phase}
use Rattle.hg_types.specs.declared.phase.Phase.TheVariants.{Public, Draft, Secret}
use Rattle.hg_types.specs.Phase.{number_of}
use Rattle.hg_log.specs.Ancestors.{IsAncestor}
use Rattle.hg_log.specs.Changeset.{Changeset}
use Rattle.hg_log.specs.Rows.{AreLawful as AreLawfulRows}
use Rattle.hg_log.specs.Parents.{parents_of}
use Rattle.hg_log.proofs.CallerLemmas.{parents_kept, ordered, ancestor_leads}
use Rattle.hg_phases.specs.Order.{greater, phase_at, phase_of, phase_above}
use Rattle.hg_phases.specs.Roots.{begins, is_root, roots_from, roots, HasRoot}
use Rattle.hg_phases.specs.Phases.{registered, advanced, advanced_at, Phasing, no_rows, AreLawful, AreFor}
use Rattle.hg_phases.proofs.Ranges.{filter_same}
use Rattle.hg_phases.proofs.Rising.{rises, registered_lawful, advanced_lawful}
use Rattle.hg_phases.proofs.Joining as joining
use Rattle.hg_phases.proofs.RootLaws.{kept_passes, root_tells}

above_kept : (old new : List Changeset) (phases : List Phase) (r : ℕ) → AreLawfulRows new →
    length old ≤ length new → take (length old) new ≡ old → r < length old →
    phase_above (parents_of old) phases r ≡ phase_above (parents_of new) phases r
above_kept old new phases r lawful within front low =
    let same : parents_of old r ≡ parents_of new r =
    ap (λ rows. parents_of rows r) (sym front) ∙ parents_kept new (length old) r within lawful low in
    ap (λ ps. greater (phase_of phases ps.0) (phase_of phases ps.1)) same

roots_kept : (old new : List Changeset) (phases : List Phase) (t : Phase) → AreLawfulRows new →
    length old ≤ length new → take (length old) new ≡ old → length phases ≤ length old →
    roots (parents_of old) phases t ≡ roots (parents_of new) phases t
unfolding roots_from
roots_kept old new phases t lawful within front few =
    filter_same (is_root (parents_of old) phases t) (is_root (parents_of new) phases t) 0 (length phases)
    (λ r low high. ap (λ above. begins t above (phase_at phases r))
    (above_kept old new phases r lawful within front (omega arith)))

-- rows that come at the end change nothing of the phases of those before them
pub for_more : (old new : List Changeset) (kept : Phasing) → AreLawfulRows new → length old ≤ length new →
    take (length old) new ≡ old → AreFor old kept → AreFor new kept
for_more old new kept lawful within front fits = record {
  few = omega (arith, fits.few);
  lawful = λ r low. omega (
    arith,
    fits.lawful r low,
    ap number_of
        (above_kept old new kept.phases r lawful within front (omega (arith, fits.few))),
  );
  draft = fits.draft ∙ roots_kept old new kept.phases Draft lawful within front fits.few;
  secret = fits.secret ∙ roots_kept old new kept.phases Secret lawful within front fits.few;
}

-- a row more, or lowered rows, and how many rows have a phase
pub length_registered : (parents : ℕ → Option ℕ × Option ℕ) (target : Phase) (phases : List Phase) →
    length (registered parents target phases) ≡ length phases + 1
unfolding registered
length_registered parents target phases =
    length_push phases (greater target (phase_above parents phases (length phases)))

pub length_advanced : (parents : ℕ → Option ℕ
    × Option ℕ) (target : Phase) (heads : List ℕ) (phases : List Phase) →
    length (advanced parents target heads phases) ≡ length phases
unfolding advanced
length_advanced parents target heads phases =
    length-map-range_with_len (advanced_at parents target heads phases) 0 (length phases)

-- no row is in a lower phase than an ancestor of it
pub no_ancestor_above : (rows : List Changeset) (kept : Phasing) (a r : ℕ) → AreLawfulRows rows →
    AreFor rows kept → r < length kept.phases → IsAncestor rows a r →
    number_of (phase_at kept.phases a) ≤ number_of (phase_at kept.phases r)
no_ancestor_above rows kept a r lawful fits within is =
    rises (parents_of rows) (ordered rows lawful) kept.phases fits.lawful a r within
    (ancestor_leads rows lawful a r is)

above_public : (target : Phase) → target ≢ Public → 0 < number_of target
above_public Public not = absurd (not refl)
above_public Draft not = omega arith
above_public Secret not = omega arith

-- a row is of at least that phase where a root of it is among its ancestors and itself
pub roots_tell : (rows : List Changeset) (kept : Phasing) (target : Phase) (r : ℕ) → AreLawfulRows rows →
    AreFor rows kept → target ≢ Public → r < length kept.phases
    → (number_of target ≤ number_of (phase_at kept.phases r)) ↔
    HasRoot (parents_of rows) (roots (parents_of rows) kept.phases target) r
roots_tell rows kept target r lawful fits not within =
    root_tells (parents_of rows) (ordered rows lawful) kept.phases target
    (above_public target not) fits.lawful r within

-- each root is a row that has a phase
pub root_within : (parents : ℕ → Option ℕ × Option ℕ) (phases : List Phase) (target : Phase) (r : ℕ)
    → Contains (roots parents phases target) r → r < length phases
unfolding roots_from
root_within parents phases target r is =
    omega (arith, (kept_passes (is_root parents phases target) 0 (length phases) r is).0)

-- no rows have phases
pub for_none : (rows : List Changeset) → AreFor rows no_rows
unfolding roots_from
for_none rows = record {
  few = omega arith;
  lawful = λ r within. absurd (omega (arith, within));
  draft = refl;
  secret = refl;
}

-- ---- lawful phases stay lawful

pub lawful_behind : (old new : List Changeset) (phases : List Phase) → AreLawfulRows new →
    length old ≤ length new → take (length old) new ≡ old → length phases ≤ length old
    → AreLawful (parents_of old) phases → AreLawful (parents_of new) phases
lawful_behind old new phases lawful within front few law r low =
    omega (
      arith,
      law r low,
      ap number_of (above_kept old new phases r lawful within front
          (omega (arith, few, low))),
    )

pub lawful_registered : (rows : List Changeset) (target : Phase) (phases : List Phase) → AreLawfulRows rows →
    AreLawful (parents_of rows) phases →
    AreLawful (parents_of rows) (registered (parents_of rows) target phases)
lawful_registered rows target phases lawful law =
    registered_lawful (parents_of rows) (ordered rows lawful) target phases law

pub lawful_advanced : (rows : List Changeset) (target : Phase) (heads : List ℕ) (phases : List Phase) →
    AreLawfulRows rows → AreLawful (parents_of rows) phases
    → AreLawful (parents_of rows) (advanced (parents_of rows) target heads phases)
lawful_advanced rows target heads phases lawful law =
    advanced_lawful (parents_of rows) (ordered rows lawful) target heads phases law

-- ---- advances one after another

pub advances_joined : (parents : ℕ → Option ℕ × Option ℕ) (target : Phase) (heads more : List ℕ)
    (phases : List Phase) → advanced parents target more (advanced parents target heads phases)
    ≡ advanced parents target (heads ++ more) phases
advances_joined = joining.advanced_joined

pub advances_either : (parents : ℕ → Option ℕ × Option ℕ) (target other : Phase) (heads others : List ℕ)
    (phases : List Phase) → advanced parents other others (advanced parents target heads phases)
    ≡ advanced parents target heads (advanced parents other others phases)
advances_either = joining.advanced_either

pub advances_none : (parents : ℕ → Option ℕ × Option ℕ) (target : Phase) (phases : List Phase)
    → advanced parents target [] phases ≡ phases
advances_none = joining.advanced_none
