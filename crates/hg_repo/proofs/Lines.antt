-- Lines of a report, one more at a time.
use Rattle.std.proofs.Common.{◌≡◌, ◌∙◌, ℕ, ◌+◌, Bool, true, false, List, [], ◌∷◌, ◌++◌}
use Rattle.std.proofs.Common.{ap, sym, arith}
use Rattle.std.specs.Prelude.{decimal}
use Rattle.std.specs.Int.{from_bool}
use Rattle.std.specs.List.{flat_map, range_with_len}
use Rattle.std.proofs.lemmas.List.{append_assoc, flat_map_more}
use Rattle.std.proofs.lemmas.Fmt.{decimal_digit}
use Rattle.hg_types.specs.declared.node.Node.{Node}
use Rattle.hg_log.specs.Changeset.{Changeset}
use Rattle.hg_log.specs.Rows.{HasNode}
use Rattle.hg_log.specs.HeadCount.{id_at, id_of}
use Rattle.hg_repo.specs.Report.{digit_of}
use Rattle.hg_repo.proofs.Ranges.{range_more}

-- the id that a row has
pub has_id : (rows : List Changeset) (rev : ℕ) (id : List ℕ) → HasNode rows rev id → id_at rows rev ≡ id
has_id rows rev id has = ap id_of has.row_at ∙ has.node_is

abbrev pub node_of : List ℕ → Node
node_of id = record { 0 = id }

-- a test, as the digit that tells it
pub told_digit : (b : Bool) → decimal (from_bool b) ≡ digit_of b
told_digit true = decimal_digit 1 (omega arith)
told_digit false = decimal_digit 0 (omega arith)

-- the line of one number more
pub number_more : (f : ℕ → List ℕ) (before now next : List ℕ) (n : ℕ)
    → now ≡ before ++ flat_map f (range_with_len 0 n) → next ≡ now ++ f n
    → next ≡ before ++ flat_map f (range_with_len 0 (n + 1))
number_more f before now next n so more =
    more
    ∙ ap (λ text. text ++ f n) so
    ∙ flat_map_more f before (range_with_len 0 n) n
    ∙ ap (λ ns. before ++ flat_map f ns) (sym (range_more n))

-- the lines so far and those that are left, after one more
pub item_left : {X : Type 0} (f : X → List ℕ) (all now next : List ℕ) (left xs : List X) (x : X)
    → left ≡ x ∷ xs → now ++ flat_map f left ≡ all → next ≡ now ++ f x → next ++ flat_map f xs ≡ all
item_left {X} f all now next left xs x is so more =
    ap (λ (t : List ℕ). t ++ flat_map f xs) more ∙ append_assoc now (f x) (flat_map f xs)
    ∙ ap (λ (ys : List X). now ++ flat_map f ys) (sym is) ∙ so

-- three pieces after nothing
pub three_pieces : (none one two three xs ys zs : List ℕ)
    → none ≡ [] → one ≡ none ++ xs → two ≡ one ++ ys → three ≡ two ++ zs → three ≡ xs ++ (ys ++ zs)
three_pieces none one two three xs ys zs empty first second third =
    third
    ∙ ap (λ text. text ++ zs) (second ∙ ap (λ text. text ++ ys) (first ∙ ap (λ text. text ++ xs) empty))
    ∙ append_assoc xs ys zs
