-- What is kept of changesets and markers.
use Rattle.std.proofs.Common.{◌≡◌, ℕ, ◌+◌, List, [], ◌∷◌, ◌++◌, length, map, sym, ap, ◌∙◌, arith}
use Rattle.std.proofs.lemmas.List.{length_push}
use Rattle.hg_log.specs.Changeset.{Changeset, Log}
use Rattle.hg_log.specs.Rows.{HasText}
use Rattle.hg_types.specs.declared.phase.Phase.{Phase}
use Rattle.hg_phases.specs.Phases.{Saved}
use Rattle.hg_obs.specs.declared.marker.Marker.{Marker}
use Rattle.hg_wireproto.specs.Branch.{branch_of}
use Rattle.hg_wireproto.specs.declared.since.ViewRow.{ViewRow}
use Rattle.hg_wireproto.specs.code.Branches.{branch_at, text_of}
use Rattle.hg_wireproto.specs.code.Hiding.{TellsKept}
use Rattle.hg_wireproto.specs.code.Viewed.{markers_in, phases_in, rows_in}
use Rattle.hg_wireproto.specs.code.Viewed.{AreEntriesFrom, AreKeptFrom, AreNamesFrom, IsEntry}
use Rattle.hg_wireproto.proofs.Hiding.{each_more}

-- one entry more
pub entries_more : (rows : List Changeset) (first n : ℕ) (old new : List ViewRow) (entry : ViewRow)
    → AreEntriesFrom rows first n old → new ≡ old ++ entry ∷ [] → IsEntry rows (first + n) entry
    → AreEntriesFrom rows first (n + 1) new
entries_more rows first n old new entry held more is = record {
  as_long = omega (arith, ap length more, length_push old entry, held.as_long);
  each = λ i other low.
      each_more (λ k. IsEntry rows (first + k)) old new entry other n held.as_long more
      (λ k within. held.each k other within) is i low;
}

-- the branch of a row with that text
pub named_at : (rows : List Changeset) (r : ℕ) (text : List ℕ) → HasText rows r text
    → branch_of text ≡ branch_at rows r
named_at rows r text has =
    ap branch_of (sym has.text_is) ∙ ap (λ o. branch_of (text_of o)) (sym has.row_at)

-- one name more
pub names_more : (rows : List Changeset) (first n : ℕ) (old new : List (List ℕ)) (name : List ℕ)
    → AreNamesFrom rows first n old → new ≡ old ++ name ∷ [] → name ≡ branch_at rows (first + n)
    → AreNamesFrom rows first (n + 1) new
names_more rows first n old new name held more is = record {
  as_long = omega (arith, ap length more, length_push old name, held.as_long);
  each = each_more (λ i named. named ≡ branch_at rows (first + i)) old new name [] n held.as_long more held.each is;
}

-- it is said of one row more whether it is kept
pub kept_more : {A : Type 0} (rows : List Changeset) (markers : List (Marker A)) (phases : List Phase) (first n : ℕ)
    (old new : List ℕ) (set : ℕ) → AreKeptFrom rows markers phases first n old → new ≡ old ++ set ∷ []
    → TellsKept rows markers phases (first + n) set → AreKeptFrom rows markers phases first (n + 1) new
kept_more rows markers phases first n old new set held more is = record {
  as_long = omega (arith, ap length more, length_push old set, held.as_long);
  each = each_more (λ i. TellsKept rows markers phases (first + i)) old new set 0 n held.as_long more held.each is;
}

-- what was made of phases is told of them
pub noted_phases : {A : Type 0} (first : List Saved) (items : List (Saved × List (Marker A))) (phases : Saved)
    (markers : List (Marker A)) → first ≡ phases ∷ [] → items ≡ map (λ item. (item, markers)) first
    → phases_in items ≡ phases.current.phases
noted_phases {A} first items phases markers one noted =
    ap phases_in (noted ∙ ap (λ (l : List Saved). map (λ item. (item, markers)) l) one)

-- what was made of a changelog and markers is told of them
pub noted_rows : {A : Type 0} (first : List Log) (items : List (Log × List (Marker A))) (log : Log)
    (markers : List (Marker A)) → first ≡ log ∷ [] → items ≡ map (λ item. (item, markers)) first
    → rows_in items ≡ log.rows
noted_rows {A} first items log markers one noted =
    ap rows_in (noted ∙ ap (λ (l : List Log). map (λ item. (item, markers)) l) one)

pub noted_markers : {A : Type 0} (first : List Log) (items : List (Log × List (Marker A))) (log : Log)
    (markers : List (Marker A)) → first ≡ log ∷ [] → items ≡ map (λ item. (item, markers)) first
    → markers_in items ≡ markers
noted_markers {A} first items log markers one noted =
    ap markers_in (noted ∙ ap (λ (l : List Log). map (λ item. (item, markers)) l) one)
