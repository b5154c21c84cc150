-- What a delta makes of a base, by lengths alone: how many bytes it keeps of the base, and how many it brings.
use Rattle.std.specs.Prelude.{ℕ, zero, suc, ◌≡◌, ◌+◌, ◌-◌, List, [], ◌∷◌, length, Result, Ok, Err}
use Rattle.hg_delta.specs.declared.fault.DeltaFault.{DeltaFault}
use Rattle.hg_delta.specs.Delta.{Hunk}
use Rattle.hg_delta.specs.Outcome.{◌>>=◌, hunk_at}
use Rattle.hg_sizes.specs.declared.delta.Measure.{Measure}
use Rattle.hg_sizes.specs.declared.delta.Hunk as code

-- a hunk that was read, as a value apart from where its content lies
abbrev pub view : code.Hunk → Hunk
view hunk = record { start = hunk.start; end = hunk.end; content = hunk.content.now }

-- The measure behind a hunk that ends at `before`: of at most so many hunks, up to the end of the bytes. It is that of
-- the text which `text_within` gives.
unfoldable pub measure_within : ℕ → ℕ → ℕ → List ℕ → Result Measure DeltaFault
measure_within zero size before bytes = Ok (record { kept = size - before; brought = 0 })
measure_within (suc most) size before [] = Ok (record { kept = size - before; brought = 0 })
measure_within (suc most) size before (byte ∷ bytes) = do
  x ← hunk_at size before (byte ∷ bytes)
  more ← measure_within most size x.0.end x.1
  Ok (record { kept = (x.0.start - before) + more.kept; brought = length x.0.content + more.brought })

-- What the delta makes of a base of that many bytes, or its first fault.
unfoldable pub measure_of : ℕ → List ℕ → Result Measure DeltaFault
measure_of size delta = measure_within (length delta) size 0 delta

-- the measure is that of the text
abbrev pub GivesTextsOf : Result Measure DeltaFault → List ℕ → Type 0
GivesTextsOf (Ok measure) text = length text ≡ measure.kept + measure.brought
GivesTextsOf (Err fault) text = ⊥
