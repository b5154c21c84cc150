-- The four bytes of the magic, as a number.
use Rattle.std.proofs.Common.{◌≡◌, ◌≢◌, ℕ, List, [], ◌∷◌, ◌++◌, length, sym, ap, ◌∙◌, take, get_or, ◌<◌, ◌≤◌}
use Rattle.std.proofs.Common.{arith, rules}
use Rattle.std.specs.Prelude.{ℤ, pos}
use Rattle.std.specs.Int.{w32, to_be_bytes, cast_unsigned}
use Rattle.std.specs.Int.RustNames.{FitsSigned}
use Rattle.std.proofs.lemmas.List.{take_more, length-append}
use Rattle.hg_chunks.specs.Size.{size_bytes}
use Rattle.hg_chunks.proofs.CallerLemmas.{one_size_lem}
use Rattle.hg_stream.specs.Frames.{magic}

-- the first byte of a piece
pub first_byte : (piece : List ℕ) → 0 < length piece → take 1 piece ≡ get_or piece 0 0 ∷ []
first_byte piece some = take_more piece 0 0 some

pub magic_whole : (bytes taken piece : List ℕ) (m : ℤ) → bytes ≡ taken → 0 < length piece → taken
    ++ get_or piece 0 0 ∷ [] ≡ size_bytes m
    → cast_unsigned w32 m ≡ 1212625456 → bytes ++ take 1 piece ≡ magic ++ []
magic_whole bytes taken piece m same some size is =
    ap (λ (x : List ℕ). bytes ++ x) (first_byte piece some)
    ∙ ap (λ (x : List ℕ). x ++ get_or piece 0 0 ∷ []) same ∙ size ∙ ap (to_be_bytes w32) is

pub magic_more : (bytes field new piece : List ℕ) → bytes ≡ field → 0 < length piece → new ≡ field
    ++ get_or piece 0 0 ∷ [] → length bytes ≤ 3 → (length field ≡ 3 → ⊥)
    → (bytes ++ take 1 piece ≡ new) × (length (bytes ++ take 1 piece) ≤ 3)
magic_more bytes field new piece same some size short other =
    let not_full : length bytes ≡ 3 → ⊥ = λ e. other (ap length (sym same) ∙ e) in (
      ap (λ (x : List ℕ). bytes ++ x) (first_byte piece some)
          ∙ ap (λ (x : List ℕ). x ++ get_or piece 0 0 ∷ []) same ∙ sym size,
      rw (first_byte piece some)
          (omega (arith, length-append bytes (get_or piece 0 0 ∷ []), short, not_full)),
    )

pub bad_magic : (bytes field piece : List ℕ) (m : ℤ) → bytes ≡ field → 0 < length piece → field
    ++ get_or piece 0 0 ∷ [] ≡ size_bytes m → FitsSigned w32 m
    → (cast_unsigned w32 m ≡ 1212625456 → ⊥) → (length (bytes ++ take 1 piece) ≡ 4)
    × (bytes ++ take 1 piece ≢ magic)
bad_magic bytes field piece m same some size fits other =
    let is : bytes ++ take 1 piece ≡ size_bytes m = ap (λ (x : List ℕ). bytes ++ x) (first_byte piece some)
    ∙ ap (λ (x : List ℕ). x ++ get_or piece 0 0 ∷ []) same ∙ size in (
      ap length is,
      λ e. let numbers : m ≡ pos 1212625456 =
          (one_size_lem m (pos 1212625456) [] [] fits (search rules)
          (ap (λ (x : List ℕ). x ++ []) (sym is ∙ e))).0 in other (ap (cast_unsigned w32) numbers),
    )
