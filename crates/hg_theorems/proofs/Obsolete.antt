-- What is obsolete by its id is what is obsolete by its row.
use Rattle.std.proofs.Common.{◌≡◌, ◌≢◌, ◌↔◌, ℕ, ◌<◌, Bool, true, false, List, [], ◌∷◌, length, get_or}
use Rattle.std.proofs.Common.{slice_get, Some, refl, sym, ap, ◌∙◌, arith}
use Rattle.std.specs.Prelude.{bytes_eq, option_map, ◌&&◌}
use Rattle.std.specs.Cmp.{first_so, second_so}
use Rattle.std.proofs.lemmas.Bool.{cond-false, false_from_ne_true}
use Rattle.std.proofs.lemmas.List.Folds.{Any-from_list_any, list_any-from_Any}
use Rattle.std.proofs.lemmas.Option.{slice_get-get_or}
use Rattle.std.proofs.lemmas.Slice.Eq.{bytes_eq-Decides}
use Rattle.hg_types.specs.NullId.{null_id}
use Rattle.hg_types.specs.declared.node.Node.{Node}
use Rattle.hg_types.specs.declared.phase.Phase.{Phase}
use Rattle.hg_types.specs.declared.phase.Phase.TheVariants.{Public, Draft, Secret}
use Rattle.hg_log.specs.Changeset.{Changeset}
use Rattle.hg_log.specs.HeadCount.{id_at, id_of}
use Rattle.hg_log.specs.Parents.{rev_of}
use Rattle.hg_log.specs.Rows.{AreLawful, HasNode}
use Rattle.hg_phases.specs.Order.{phase_at}
use Rattle.hg_keys.specs.Known.{phase_of_node}
use Rattle.hg_obs.specs.declared.marker.Marker.{Marker}
use Rattle.hg_obs.specs.Markers.{IsPredecessor}
use Rattle.hg_obs.specs.Same.{same_node, same_node_decides}
use Rattle.hg_parts.specs.Repository.{Repository}
use Rattle.hg_repo.specs.Reading.{can_be_obsolete, is_obsolete, is_predecessor}
use Rattle.hg_wireproto.specs.Hidden.{is_public, IsObsolete}
use Rattle.hg_theorems.proofs.Known.{number_is}

row_here : (rows : List Changeset) (r : ℕ) → r < length rows
    → (row : Changeset) × (slice_get rows r ≡ Some row)
row_here [] r within = absurd (omega arith)
row_here (first ∷ rows) r within =
    (get_or (first ∷ rows) r first, slice_get-get_or (first ∷ rows) r first within)

-- the id of a row has the phase of the row
phase_of_row : (rows : List Changeset) (phases : List Phase) (r : ℕ) → AreLawful rows → r < length rows
    → phase_of_node rows phases (record { 0 = id_at rows r }) ≡ Some (phase_at phases r)
phase_of_row rows phases r lawful within =
    let here = row_here rows r within in
    let id : id_at rows r ≡ here.0.node = ap id_of here.1 in
    let has : HasNode rows r (id_at rows r) =
    record { row = here.0; row_at = here.1; node_is = sym id } in
    let number : rev_of rows (id_at rows r) ≡ Some r = (number_is rows (id_at rows r) r lawful).1 has in
    let other : here.0.node ≢ null_id = (lawful.each r here.0 here.1).not_null in
    let not_null : bytes_eq (id_at rows r) null_id ≡ false =
    false_from_ne_true (bytes_eq (id_at rows r) null_id)
    (λ is. other (sym id ∙ (bytes_eq-Decides (id_at rows r) null_id).0 is)) in
    cond-false (bytes_eq (id_at rows r) null_id) (Some Public)
    (option_map (phase_at phases) (rev_of rows (id_at rows r))) not_null
    ∙ ap (option_map (phase_at phases)) number

-- a known changeset may be obsolete where it is not public
may_be : (phase : Phase) → (can_be_obsolete (Some phase) ≡ true) ↔ (is_public phase ≡ false)
may_be Public = (λ is. absurd cc, λ is. absurd cc)
may_be Draft = (λ is. refl, λ is. refl)
may_be Secret = (λ is. refl, λ is. refl)

predecessor : {A : Type 0} (markers : List (Marker A)) (node : Node)
    → (is_predecessor markers node ≡ true) ↔ IsPredecessor markers node
predecessor {A} markers node = (
  λ is.
      let found = Any-from_list_any (λ (m : Marker A). same_node m.predecessor node) markers is in
      (found.0, found.1, found.2, found.3, (same_node_decides found.1.predecessor node).0 found.4),
  λ found.
      list_any-from_Any (λ (m : Marker A). same_node m.predecessor node) markers
      (found.0, found.1, found.2, found.3, (same_node_decides found.1.predecessor node).1 found.4),
)

both : (p q : Bool) → p ≡ true → q ≡ true → (p && q) ≡ true
both true q h k = k
both false q h k = h

pub obsolete_by_row : {A : Type 0} (repo : Repository A) (r : ℕ) → AreLawful repo.rows → r < length repo.rows
    → (is_obsolete repo (record { 0 = id_at repo.rows r }) ≡ true)
    ↔ IsObsolete repo.rows repo.markers repo.phases r
obsolete_by_row {A} repo r lawful within =
    let node : Node = record { 0 = id_at repo.rows r } in
    let phase = phase_of_row repo.rows repo.phases r lawful within in
    let may = may_be (phase_at repo.phases r) in
    let marked = predecessor repo.markers node in
    let first : Bool = can_be_obsolete (phase_of_node repo.rows repo.phases node) in
    let second : Bool = is_predecessor repo.markers node in (
      λ is. record {
        marked = marked.0 (second_so first second is);
        not_public = may.0 (sym (ap can_be_obsolete phase) ∙ first_so first second is);
      },
      λ is. both first second (ap can_be_obsolete phase ∙ may.1 is.not_public) (marked.1 is.marked),
    )
