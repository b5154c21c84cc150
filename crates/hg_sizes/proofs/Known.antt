-- Bases that are known, and how many are not.
use Rattle.std.proofs.Common.{◌≡◌, ◌≤◌, ◌<◌, Bool, ℕ, ◌+◌, List, [], ◌∷◌, length, Option, Some, None, refl, sym, ap, ◌∙◌, arith}
use Rattle.std.specs.Prelude.{if◌then◌else◌}
use Rattle.std.proofs.lemmas.Bool.{le-ltb, lt-ltb}
use Rattle.hg_types.specs.declared.entry.Entry.{Entry}
use Rattle.hg_types.specs.declared.node.Node.{Node}
use Rattle.hg_log.specs.Changeset.{Changeset}
use Rattle.hg_log.specs.Parents.{rev_of}
use Rattle.hg_log.specs.Rows.{HasText}
use Rattle.hg_sizes.specs.declared.weighing.Excess.{Excess}
use Rattle.hg_sizes.specs.declared.weighing.Excess.TheVariants.{UnknownBases}
use Rattle.hg_sizes.specs.Bases.{base_text, excess_of_unknown, most_unknown, one_unknown, row_text}
use Rattle.hg_sizes.specs.Bases.{text_at, unknown_behind, with_entry}

-- the text of the row with that id
pub text_of_row : (rows : List Changeset) (node : List ℕ) (rev : ℕ) (text : List ℕ) → Some rev ≡ rev_of rows node →
    HasText rows rev text → Some text ≡ text_at rows (rev_of rows node)
text_of_row rows node rev text found has =
    ap (λ (bytes : List ℕ). Some bytes) (sym has.text_is)
    ∙ (ap row_text (sym has.row_at) ∙ ap (text_at rows) found)

-- how many are too many
abbrev told : Bool → Option Excess
told many = if many then Some UnknownBases else None

pub too_many : (unknown : ℕ) → most_unknown < unknown → Some UnknownBases ≡ excess_of_unknown unknown
too_many unknown many = sym (ap told (lt-ltb most_unknown unknown many))

pub few_enough : (unknown : ℕ) → unknown ≤ most_unknown → None ≡ excess_of_unknown unknown
few_enough unknown few = sym (ap told (le-ltb most_unknown unknown few))

-- one at most
pub one_at_most : (text : Option (List ℕ)) → one_unknown text ≤ 1
one_at_most None = omega arith
one_at_most (Some text) = omega arith

module _ {A : Type 0} (most : ℕ) (rows : List Changeset) (texts : Node → Option (Option (List ℕ)))
    (entries others : List (Entry A)) (entry : Entry A)
  where
    -- the first changeset is counted
    pub counts_first : (others_texts : Node → Option (Option (List ℕ))) (one : ℕ) → entries ≡ entry ∷ others →
        one ≡ one_unknown (base_text rows texts entry.base) → others_texts ≡ with_entry most rows texts entry →
        unknown_behind most rows texts entries ≡ one + unknown_behind most rows others_texts others
    unfolding unknown_behind
    counts_first others_texts one is counted noted =
        ap (unknown_behind most rows texts) is
        ∙ (ap (λ (n : ℕ). n + unknown_behind most rows (with_entry most rows texts entry) others) (sym counted)
        ∙ ap (λ (t : Node → Option (Option (List ℕ))). one + unknown_behind most rows t others) (sym noted))

-- none is left
pub none_left : {A : Type 0} (most : ℕ) (rows : List Changeset) (texts : Node → Option (Option (List ℕ)))
    (entries : List (Entry A)) → length entries ≡ 0 → unknown_behind most rows texts entries ≡ 0
unfolding unknown_behind
none_left most rows texts [] none = refl
none_left most rows texts (entry ∷ entries) none = absurd (omega (arith, none))
