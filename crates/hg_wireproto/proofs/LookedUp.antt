-- What only the ids can name is answered by them alone.
use Rattle.std.proofs.Common.{◌≡◌, ℕ, ◌<◌, ◌/◌, ◌%◌, List, length, codes, Bool, true, false, cond}
use Rattle.std.proofs.Common.{Option, Some, None, Err, bytes_eq, refl, sym, ap, ◌∙◌, arith}
use Rattle.std.specs.Prelude.{◌==◌, ◌||◌, not, is_some}
use Rattle.std.specs.List.{list_all}
use Rattle.std.proofs.lemmas.Bool.{and_parts, ne_eqb, true≢false}
use Rattle.hex.specs.Hex.{decode_pairs}
use Rattle.hex.specs.declared.error.FromHexError.TheVariants.{InvalidStringLength, OddLength}
use Rattle.hg_types.specs.declared.node.Node.{Node}
use Rattle.hg_types.specs.NullId.{null_id}
use Rattle.hg_log.specs.Changeset.{Changeset}
use Rattle.hg_keys.specs.Bookmarks.{Pairs, node_of}
use Rattle.hg_keys.specs.PushKey.{node_from, node_in_hex}
use Rattle.hg_wireproto.specs.declared.lookup.Resolved.TheVariants.{Id}
use Rattle.hg_wireproto.specs.Lookup.{begun_by, begun_text, id_or, is_beginning, is_left_to_ids, is_lower_digit}
use Rattle.hg_wireproto.specs.Lookup.{known_of, lookup_line, lookup_text, named_by, tip_of}
use Rattle.hg_wireproto.proofs.HeadIds.{apart}
use Rattle.hg_wireproto.proofs.OrderedIds.{parts_of}

-- a beginning is no word that has another letter
no_word : (key word : List ℕ) → is_beginning key ≡ true → list_all is_lower_digit word ≡ false
    → bytes_eq key word ≡ false
no_word key word is other =
    apart key word (λ same. true≢false (sym (parts_of key is).1 ∙ ap (list_all is_lower_digit) same ∙ other))

-- and no 40 digits
no_digits : (key : List ℕ) → length key < 40 → node_in_hex key ≡ None
unfolding node_in_hex
no_digits key few = by (length key % 2 == 1) refl
  where
    half : (length key / 2 == 20) ≡ false
    half = ne_eqb (length key / 2) 20 (λ e. omega (arith, e, few))

    by : (b : Bool) → (length key % 2 == 1) ≡ b → node_in_hex key ≡ None
    by true is =
        ap (λ b. node_from (cond b (Err OddLength) (cond (length key / 2 == 20) (decode_pairs 0 key) (Err InvalidStringLength)))) is
    by false is =
        ap (λ b. node_from (cond b (Err OddLength) (cond (length key / 2 == 20) (decode_pairs 0 key) (Err InvalidStringLength)))) is
        ∙ ap (λ b. node_from (cond b (decode_pairs 0 key) (Err InvalidStringLength))) half

no_bookmark : (found : Option Node) → not (is_some found) ≡ true → found ≡ None
no_bookmark None is = refl
no_bookmark (Some node) is = absurd (true≢false (sym is))

pub looked_up : (rows : List Changeset) (pairs : Pairs) (key : List ℕ) → is_left_to_ids pairs key ≡ true
    → lookup_text rows pairs key ≡ begun_text rows key
unfolding lookup_text begun_text named_by
looked_up rows pairs key left =
    let parts = and_parts (is_beginning key) (not (is_some (node_of pairs key))) left in
    let first : (bytes_eq key (codes "tip") || bytes_eq key (codes ".")) ≡ false =
    ap (λ b. b || bytes_eq key (codes ".")) (no_word key (codes "tip") parts.0 refl)
    ∙ no_word key (codes ".") parts.0 refl in
    let second = no_word key (codes "null") parts.0 refl in
    let null = λ (id : List ℕ). Id (let made : Node = record { 0 = id } in made) in
    let rest = id_or (known_of rows (node_in_hex key)) (id_or (node_of pairs key) (begun_by rows key)) in
    ap (lookup_line key)
    (ap (λ b. cond b (Id (tip_of rows)) (cond (bytes_eq key (codes "null")) (null null_id) rest)) first
    ∙ ap (λ b. cond b (null null_id) rest) second
    ∙ ap (λ found. id_or (known_of rows found) (id_or (node_of pairs key) (begun_by rows key)))
    (no_digits key (parts_of key parts.0).0)
    ∙ ap (λ found. id_or found (begun_by rows key)) (no_bookmark (node_of pairs key) parts.1))
