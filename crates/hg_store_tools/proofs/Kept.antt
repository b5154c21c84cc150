-- The code's table of the types of part that may change a repository says what the table of all types says.
use Rattle.std.proofs.Common.{◌≡◌, inl, inr, ℕ, Bool, true, false, cond, ◌||◌, List, [], ◌∷◌, Option, Some, None}
use Rattle.std.proofs.Common.{find, codes, map, option_map}
use Rattle.std.proofs.Common.{refl, sym, ap, ◌∙◌, subst}
use Rattle.std.specs.Prelude.{bytes_eq}
use Rattle.std.specs.List.{filter, list_any}
use Rattle.std.specs.Str.{str_to_ascii_lowercase, str_eq_ignore_ascii_case}
use Rattle.std.proofs.lemmas.Bool.{cases_Bool}
use Rattle.std.proofs.lemmas.Slice.Eq.{bytes_eq-Decides}
use Rattle.hg_types.specs.declared.part.Param.{Param}
use Rattle.hg_types.specs.declared.part.Part.{Part}
use Rattle.hg_parts.specs.declared.table.PartType.{PartType}
use Rattle.hg_parts.specs.declared.table.PartType.TheVariants.{ChangeGroup, PhaseHeads, Bookmarks}
use Rattle.hg_parts.specs.declared.table.PartType.TheVariants.{Obsmarkers, Pushkey}
use Rattle.hg_parts.specs.PartTypes.{Row, is_unknown, row_of, support_by, support_in, support_of, table, unknown_names}
use Rattle.hg_store_tools.specs.Canonical.{names_by, names_for}
use Rattle.hg_store_tools.specs.code.Changing.{Change, changes_table, kept_in, key_names}

-- what is kept of a part whose type has a row
by_row : {A : Type 0} (part_type : PartType) (known : List (List ℕ)) (params : List (Param A))
    → names_by (support_by part_type (unknown_names known params))
    ≡ cond (list_any (is_unknown known) params) None (names_for part_type)
by_row part_type known [] = refl
by_row part_type known (param ∷ params) =
    let rest = filter (is_unknown known) params in
    elim (is_unknown known param) as (λ b. names_by (support_by part_type (map (λ p. p.key)
    (cond b (param ∷ rest) rest))) ≡ cond (b || list_any (is_unknown known) params) None (names_for part_type)) [
      | true ↦ refl
      | false ↦ by_row part_type known params
    ]

same_both : {X : Type 0} (b : Bool) (x : X) → cond b x x ≡ x
same_both true x = refl
same_both false x = refl

-- no row was found, or that of a type that changes nothing
abbrev IsIdle : Option Row → Type 0
IsIdle None = Unit {0}
IsIdle (Some row) = names_for row.part_type ≡ None

module _ {A : Type 0} (params : List (Param A)) where
  -- what is kept of a part of that type in lower case, by the one table and by the other
  abbrev of_table : List ℕ → Option (List (List ℕ))
  of_table kind = names_by (support_in params (find (λ row. bytes_eq (str_to_ascii_lowercase row.name) kind) table))

  abbrev of_code : List ℕ → Option (List (List ℕ))
  of_code kind =
      kept_in params (find (λ change. bytes_eq (str_to_ascii_lowercase change.name) kind) changes_table)

  abbrev Agrees : List ℕ → Type 0
  Agrees kind = of_table kind ≡ of_code kind

  idle_found : (found : Option Row) → IsIdle found → names_by (support_in params found) ≡ None
  idle_found None idle = refl
  idle_found (Some row) idle =
      by_row row.part_type row.known params
      ∙ ap (λ (o : Option (List (List ℕ))). cond (list_any (is_unknown row.known) params) None o) idle
      ∙ same_both (list_any (is_unknown row.known) params) None

  idle : (name : List ℕ) → IsIdle (find (λ row. bytes_eq (str_to_ascii_lowercase row.name) name) table)
      → of_table name ≡ None
  idle name = idle_found (find (λ row. bytes_eq (str_to_ascii_lowercase row.name) name) table)

  -- the type is of that name, or of another
  either : (name kind : List ℕ) → Agrees name → (bytes_eq name kind ≡ false → Agrees kind) → Agrees kind
  either name kind here other =
      elim (cases_Bool (bytes_eq name kind)) [
        | inl is ↦ subst Agrees ((bytes_eq-Decides name kind).0 is) here
        | inr not ↦ other not
      ]

  -- a type without a row, by what each name of the tables is not
  unlisted : (kind : List ℕ)
      → bytes_eq (codes "replycaps") kind ≡ false
      → bytes_eq (codes "check:heads") kind ≡ false
      → bytes_eq (codes "check:phases") kind ≡ false
      → bytes_eq (codes "check:bookmarks") kind ≡ false
      → bytes_eq (codes "phase-heads") kind ≡ false
      → bytes_eq (codes "bookmarks") kind ≡ false
      → bytes_eq (codes "obsmarkers") kind ≡ false
      → bytes_eq (codes "changegroup") kind ≡ false
      → bytes_eq (codes "pushkey") kind ≡ false
      → bytes_eq (codes "output") kind ≡ false
      → bytes_eq (codes "error:abort") kind ≡ false
      → Agrees kind
  unlisted kind replycaps heads phases marks phase_heads bookmarks markers group pushkey output abort =
      rw (replycaps, heads, phases, marks, phase_heads, bookmarks, markers, group, pushkey, output, abort) refl

  pub agrees : (kind : List ℕ) → Agrees kind
  agrees kind =
      either (codes "replycaps") kind (idle (codes "replycaps") refl) (λ replycaps.
      either (codes "check:heads") kind (idle (codes "check:heads") refl) (λ heads.
      either (codes "check:phases") kind (idle (codes "check:phases") refl) (λ phases.
      either (codes "check:bookmarks") kind (idle (codes "check:bookmarks") refl) (λ marks.
      either (codes "phase-heads") kind (by_row PhaseHeads [] params) (λ phase_heads.
      either (codes "bookmarks") kind (by_row Bookmarks [] params) (λ bookmarks.
      either (codes "obsmarkers") kind (by_row Obsmarkers [] params) (λ markers.
      either (codes "changegroup") kind (by_row ChangeGroup (codes "version" ∷ codes "nbchanges" ∷ codes "targetphase" ∷ []) params) (λ group.
      either (codes "pushkey") kind (by_row Pushkey key_names params) (λ pushkey.
      either (codes "output") kind (idle (codes "output") refl) (λ output.
      either (codes "error:abort") kind (idle (codes "error:abort") refl) (λ abort.
      unlisted kind replycaps heads phases marks phase_heads bookmarks markers group pushkey output abort)))))))))))

-- what is found among values is the value of what is found
pub found-map : {X Y : Type 0} (p : Y → Bool) (f : X → Y) (xs : List X) (found : Option X)
    → found ≡ find (λ x. p (f x)) xs → option_map f found ≡ find p (map f xs)
found-map {X} {Y} p f xs found is = ap (option_map f) is ∙ found-in xs
  where
    found-in : (xs : List X) → option_map f (find (λ x. p (f x)) xs) ≡ find p (map f xs)
    found-in [] = refl
    found-in (x ∷ xs) =
        elim (p (f x)) as (λ b. option_map f (cond b (Some x) (find (λ x. p (f x)) xs)) ≡ cond b (Some (f x))
        (find p (map f xs))) [
          | true ↦ refl
          | false ↦ found-in xs
        ]

pub list_any-map : {X Y : Type 0} (p : Y → Bool) (f : X → Y) (xs : List X)
    → list_any (λ x. p (f x)) xs ≡ list_any p (map f xs)
list_any-map p f [] = refl
list_any-map p f (x ∷ xs) = ap (λ b. p (f x) || b) (list_any-map p f xs)

-- what is kept of a part, by the row that the code found for its type
pub kept_by_code : {A : Type 0} (part : Part A) (kind : List ℕ) (found : Option Change) → kind ≡ part.kind
    → find (λ change. str_eq_ignore_ascii_case change.name kind) changes_table ≡ found
    → names_by (support_of part) ≡ kept_in part.params found
unfolding row_of
kept_by_code part kind found same is =
    agrees part.params (str_to_ascii_lowercase part.kind)
    ∙ ap (λ (text : List ℕ). kept_in part.params
    (find (λ change. str_eq_ignore_ascii_case change.name text) changes_table)) (sym same)
    ∙ ap (kept_in part.params) is
