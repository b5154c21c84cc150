-- The length of a text that is here.
use Rattle.std.proofs.Common.{◌≡◌, ℕ, List, length, Some, sym, ap, ◌∙◌}
use Rattle.hg_log.specs.Changeset.{Changeset}
use Rattle.hg_log.specs.Parents.{rev_of}
use Rattle.hg_log.specs.Rows.{HasText}
use Rattle.hg_weighing.specs.Lengths.{length_at, row_length}

-- the text of the row with that id
pub length_here : (rows : List Changeset) (node : List ℕ) (rev : ℕ) (text : List ℕ) → Some rev ≡ rev_of rows node →
    HasText rows rev text → Some (length text) ≡ length_at rows (rev_of rows node)
length_here rows node rev text found has =
    ap (λ (bytes : List ℕ). Some (length bytes)) (sym has.text_is)
    ∙ (ap row_length (sym has.row_at) ∙ ap (length_at rows) found)
