-- What is left of metadata decides with how it stands.
use Rattle.std.proofs.Common.{◌≡◌, ◌==◌, ◌&&◌, ℕ, Bool, true, false, cond, List, [], ◌∷◌, refl, sym, ap, ◌∙◌}
use Rattle.std.proofs.Common.{eqb-true}
use Rattle.std.specs.List.{list_all, list_any, slice_split, onto_first}
use Rattle.hg_obs.specs.declared.read.Piece.{Piece}
use Rattle.hg_obs.specs.declared.read.Piece.TheVariants.{Empty, Bare, Named, Refused}
use Rattle.hg_obs.specs.Marker.{is_piece}
use Rattle.hg_obs.specs.code.Pieces.{after_byte}

abbrev pub pieces : List ℕ → List (List ℕ)
pieces bytes = slice_split (λ b. b == 0) bytes

-- whether the rest of a piece, and the pieces after it, are good
abbrev pub goes_on : Piece → List (List ℕ) → Bool
goes_on Empty [] = true
goes_on Empty (piece ∷ others) = is_piece piece && list_all is_piece others
goes_on Bare [] = false
goes_on Bare (piece ∷ others) = list_any (λ b. b == 58) piece && list_all is_piece others
goes_on Named [] = true
goes_on Named (piece ∷ others) = list_all is_piece others
goes_on Refused ps = false

pub from_start : (ps : List (List ℕ)) → goes_on Empty ps ≡ list_all is_piece ps
from_start [] = refl
from_start (piece ∷ others) = refl

at_nul : (state : Piece) (ps : List (List ℕ)) → goes_on (after_byte state 0) ps ≡ goes_on state ([] ∷ ps)
at_nul Empty ps = from_start ps
at_nul Bare ps = refl
at_nul Named ps = from_start ps
at_nul Refused ps = refl

-- another byte, by whether it is a colon
at_other : (state : Piece) (byte : ℕ) (ps : List (List ℕ)) (colon : Bool) → (byte == 0) ≡ false
    → (byte == 58) ≡ colon → goes_on (after_byte state byte) ps ≡ goes_on state (onto_first byte ps)
at_other Empty byte [] true h k = rw (h, k) refl
at_other Empty byte [] false h k = rw (h, k) refl
at_other Empty byte (piece ∷ others) true h k = rw (h, k) refl
at_other Empty byte (piece ∷ others) false h k = rw (h, k) refl
at_other Bare byte [] true h k = rw (h, k) refl
at_other Bare byte [] false h k = rw (h, k) refl
at_other Bare byte (piece ∷ others) true h k = rw (h, k) refl
at_other Bare byte (piece ∷ others) false h k = rw (h, k) refl
at_other Named byte [] colon h k = rw h refl
at_other Named byte (piece ∷ others) colon h k = rw h refl
at_other Refused byte ps colon h k = refl

pub one_more : (state : Piece) (byte : ℕ) (bytes : List ℕ)
    → goes_on (after_byte state byte) (pieces bytes) ≡ goes_on state (pieces (byte ∷ bytes))
one_more state byte bytes = by (byte == 0) refl
  where
    by : (nul : Bool) → (byte == 0) ≡ nul
        → goes_on (after_byte state byte) (pieces bytes) ≡ goes_on state
        (cond (byte == 0) ([] ∷ pieces bytes) (onto_first byte (pieces bytes)))
    by true h = ap (λ (b : ℕ). goes_on (after_byte state b) (pieces bytes)) (eqb-true byte 0 h)
        ∙ at_nul state (pieces bytes)
        ∙ sym (ap (λ (c : Bool). goes_on state (cond c ([] ∷ pieces bytes) (onto_first byte (pieces bytes))))
        h)
    by false h = at_other state byte (pieces bytes) (byte == 58) h refl
        ∙ sym (ap (λ (c : Bool). goes_on state (cond c ([] ∷ pieces bytes) (onto_first byte (pieces bytes))))
        h)
