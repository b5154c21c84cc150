-- A delta, read from left to right: its text, or its first fault.
use Rattle.std.specs.Prelude.{ℕ, zero, suc, List, [], ◌∷◌, ◌++◌, length, take, drop, Result, Ok, Err}
use Rattle.std.specs.Prelude.{nat_lt, if◌then◌else◌}
use Rattle.std.specs.Int.{w32, from_be_bytes}
use Rattle.hg_delta.specs.declared.fault.DeltaFault.{DeltaFault}
use Rattle.hg_delta.specs.declared.fault.DeltaFault.TheVariants.{Short, Backwards, PastEnd, TooLong}
use Rattle.hg_delta.specs.Delta.{Hunk, piece_of}

infixl 10 ◌>>=◌
abbrev pub ◌>>=◌ : {X Y : Type 0} → Result X DeltaFault → (X → Result Y DeltaFault) → Result Y DeltaFault
(Ok x) >>= f = f x
(Err fault) >>= f = Err fault

-- the number of 32 bits at that place
abbrev pub number_at : ℕ → List ℕ → ℕ
number_at place bytes = from_be_bytes w32 (take 4 (drop place bytes))

-- After a header of these numbers: the hunk and the bytes after it, in a base of that size and after a
-- hunk that ends at `before`.
unfoldable pub hunk_headed : ℕ → ℕ → ℕ → ℕ → ℕ → List ℕ → Result (Hunk × List ℕ) DeltaFault
hunk_headed size before start end wanted more =
    if nat_lt start before then Err Backwards else
    if nat_lt end start then Err Backwards else
    if nat_lt size end then Err PastEnd else
    if nat_lt (length more) wanted then Err Short else
    Ok (record { start = start; end = end; content = take wanted more }, drop wanted more)

-- the hunk at the front of the bytes, and those after it
unfoldable pub hunk_at : ℕ → ℕ → List ℕ → Result (Hunk × List ℕ) DeltaFault
hunk_at size before bytes =
    if nat_lt (length bytes) 12 then Err Short else
    hunk_headed size before (number_at 0 bytes) (number_at 4 bytes) (number_at 8 bytes) (drop 12 bytes)

-- the text after a hunk that ends at `before`: of at most so many hunks, up to the end of the bytes
unfoldable pub text_within : ℕ → List ℕ → ℕ → List ℕ → Result (List ℕ) DeltaFault
text_within zero base before bytes = Ok (drop before base)
text_within (suc most) base before [] = Ok (drop before base)
text_within (suc most) base before (byte ∷ bytes) = do
  x ← hunk_at (length base) before (byte ∷ bytes)
  text ← text_within most base x.0.end x.1
  Ok (piece_of base (before, x.0) ++ text)

-- What a delta gives of a base, where the text may have `most` bytes. No hunk is without bytes, so there are
-- no more hunks than bytes.
unfoldable pub outcome_of : List ℕ → List ℕ → ℕ → Result (List ℕ) DeltaFault
outcome_of base delta most = do
  text ← text_within (length delta) base 0 delta
  if nat_lt most (length text) then Err TooLong else Ok text
