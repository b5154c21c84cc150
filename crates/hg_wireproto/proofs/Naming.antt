-- The last changeset.
use Rattle.std.proofs.Common.{◌≡◌, ℕ, ◌-◌, ◌<◌, List, [], ◌∷◌, length, refl, sym, ap, ◌∙◌, arith}
use Rattle.hg_types.specs.declared.node.Node.{Node}
use Rattle.hg_types.specs.NullId.{null_id}
use Rattle.hg_log.specs.Changeset.{Changeset}
use Rattle.hg_log.specs.HeadCount.{id_at}
use Rattle.hg_log.specs.Rows.{HasNode}
use Rattle.hg_wireproto.specs.Lookup.{tip_of}
use Rattle.hg_wireproto.proofs.Lines.{has_id}

pub tip_none : (rows : List Changeset) → length rows ≡ 0
    → (let null : Node = record { 0 = null_id } in null) ≡ tip_of rows
tip_none [] none = refl
tip_none (row ∷ rows) none = absurd (omega (arith, none))

pub tip_at : (rows : List Changeset) (node : Node) → 0 < length rows → HasNode rows (length rows - 1) node.0
    → node ≡ tip_of rows
tip_at [] node some has = absurd (omega (arith, some))
tip_at (row ∷ rows) node some has =
    let last : length (row ∷ rows) - 1 ≡ length rows = omega arith in
    let id = λ (id : List ℕ). let made : Node = record { 0 = id } in made in
    sym (ap id (has_id (row ∷ rows) (length (row ∷ rows) - 1) node.0 has))
    ∙ ap (λ (r : ℕ). id (id_at (row ∷ rows) r)) last
