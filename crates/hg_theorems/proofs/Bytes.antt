-- Which lists are of bytes.
use Rattle.std.proofs.Common.{◌≡◌, ◌↔◌, ℕ, ◌<◌, List, length, slice_index_or, inl, inr, arith}
use Rattle.std.specs.List.{All}
use Rattle.std.proofs.lemmas.Bool.{cases_lt}
use Rattle.std.proofs.lemmas.List.{get_or_default, get_or_past}
use Rattle.hg_types.specs.Bytes.{IsBytes}

pub below_256 : (bytes : List ℕ) → IsBytes bytes ↔ All (λ byte. byte < 256) bytes
below_256 bytes = (
  λ fits k d low. rw (get_or_default bytes k d 0 low) (fits k),
  λ each i. elim (cases_lt i (length bytes)) [
    | inl low ↦ each i 0 low
    | inr past ↦ let none : slice_index_or bytes i 0 ≡ 0 = get_or_past bytes i 0 past in omega arith
  ],
)
