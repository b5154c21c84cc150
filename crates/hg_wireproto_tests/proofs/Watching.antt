-- A view of the first of changesets and of markers, while these grow.
use Rattle.std.proofs.Common.{◌≡◌, ℕ, List, [], ◌∷◌, ◌++◌, length, take, Result, Ok, Err, refl, sym, subst, ap, ◌∙◌}
use Rattle.std.proofs.Common.{arith}
use Rattle.std.specs.Prelude.{IfOk, OnErr, OnOk}
use Rattle.std.proofs.lemmas.List.{append-nil, length-append, take_at}
use mathlib.Core.List.{IsPrefix}
use Rattle.hg_types.specs.declared.entry.Entry.{Entry}
use Rattle.hg_types.specs.declared.phase.Phase.{Phase}
use Rattle.hg_log.specs.Add.{row_of, AddLeaves}
use Rattle.hg_log.specs.Changeset.{Changeset, Log}
use Rattle.hg_log.specs.declared.add.Added.{Added}
use Rattle.hg_log.specs.declared.add.Added.TheVariants.{New, Known}
use Rattle.hg_log.specs.declared.add.AddFault.{AddFault}
use Rattle.hg_log.specs.Rows.{AreLawful}
use Rattle.hg_phases.specs.Phases.{AreFor, Saved, Phasing}
use Rattle.hg_phases.proofs.CallerLemmas.{for_more}
use Rattle.hg_obs.specs.declared.marker.Marker.{Marker}
use Rattle.hg_obs.specs.Markers.{fresh, merged}
use Rattle.hg_wireproto.specs.Viewed.{IsFrontOf, Since, StayPublic, Viewed}
use Rattle.hg_wireproto.proofs.Publishing.{stay_same}

-- what stayed as it was
pub unchanged : {X : Type 0} (xs ys : List X) → ys ≡ xs → IsPrefix xs ys
unchanged xs ys same = ([], append-nil xs ∙ sym same)

-- a changelog after a good answer, and after any answer
added_on : {A : Type 0} (old new : Log) (entry : Entry A) (added : Added) → AddLeaves old entry added new
    → IsPrefix old.rows new.rows
added_on old new entry (New rev) leaves =
    (row_of entry leaves.text ∷ [], sym (ap (λ (l : Log). l.rows) leaves.appended))
added_on old new entry Known leaves = unchanged old.rows new.rows (ap (λ (l : Log). l.rows) leaves.1)

pub answered_on : {A : Type 0} (old new : Log) (entry : Entry A) (answer : Result Added AddFault)
    → IfOk answer (λ added. AddLeaves old entry added new) → OnErr answer (new ≡ old)
    → IsPrefix old.rows new.rows
answered_on old new entry (Ok added) leaves same = added_on old new entry added leaves
answered_on old new entry (Err fault) leaves same =
    unchanged old.rows new.rows (ap (λ (l : Log). l.rows) same)

-- markers after a merge
pub merged_on : {A : Type 0} (old new added : List (Marker A)) → new ≡ merged old added → IsPrefix old new
merged_on old new added is = (fresh old added, sym is)

-- phases that fit go on to fit more changesets
pub fits_on : (old new : List Changeset) (kept : Phasing) → AreLawful new → IsPrefix old new → AreFor old kept
    → AreFor new kept
fits_on old new kept lawful more fits =
    for_more old new kept lawful (omega (arith, length-append old more.0, ap length more.1))
    (ap (take (length old)) (sym more.1) ∙ take_at old more.0 (length old) refl) fits

-- a view of all
pub of_all : {A : Type 0} (view : Viewed A) (rows : List Changeset) (markers : List (Marker A))
    (phases : List Phase) → view ≡ record { rows = rows; markers = markers; phases = phases }
    → IsFrontOf view rows markers phases
of_all {A} view rows markers phases all =
    subst (λ (v : Viewed A). IsFrontOf v rows markers phases) (sym all) (record {
      rows = unchanged rows rows refl;
      markers = unchanged markers markers refl;
      stay = stay_same phases;
    })

pub of_what_came : {A : Type 0} (view : Viewed A) (came : Since A) (first known : ℕ) (public : List ℕ)
    (rows : List Changeset) (markers : List (Marker A)) (phases : List Phase)
    → view ≡ record { rows = came.rows; markers = came.markers; phases = came.phases } → came ≡ record {
      first = first;
      known = known;
      public = public;
      rows = rows;
      markers = markers;
      phases = phases;
    } → IsFrontOf view rows markers phases
of_what_came view came first known public rows markers phases all is =
    of_all view rows markers phases
    (all ∙ ap (λ s. record { rows = s.rows; markers = s.markers; phases = s.phases }) is)

-- phases after an answer
pub stay_after : {X E : Type 0} (old new : Saved) (result : Result X E) (made : List Phase)
    → StayPublic old.current.phases made → OnOk result (new.current.phases ≡ made) → OnErr result (new ≡ old)
    → StayPublic old.current.phases new.current.phases
stay_after old new (Ok done) made stay is same = subst (StayPublic old.current.phases) (sym is) stay
stay_after old new (Err fault) made stay is same =
    subst (λ (m : Saved). StayPublic old.current.phases m.current.phases) (sym same) (stay_same old.current.phases)
