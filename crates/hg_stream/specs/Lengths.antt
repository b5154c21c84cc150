-- How long a bundle can be whose parts have no payload.
use Rattle.std.specs.Prelude.{◌≡◌, ℕ, ◌+◌, ◌*◌, ◌<◌, ◌≤◌, ◌^◌, List, [], All, length}
use Rattle.hg_types.specs.declared.part.Part.{Part}
use Rattle.hg_stream.specs.Written.{bundle_bytes, CanBeWritten}

-- The bytes of a bundle around its parts: 4 of the magic, 4 of the size of no stream parameters, and 4 of the
-- end mark.
abbrev pub around_parts : ℕ
around_parts = 12

-- The most bytes of a part that has no payload: 4 of the size of its header, 261,382 of the greatest header,
-- and 4
-- of the size that closes its payload.
abbrev pub greatest_bare_part : ℕ
greatest_bare_part = 261390

-- what is written of these parts, if they have no payload, has at most so many bytes for each
abbrev pub AreShortIfBare : {A : Type 0} → List (Part A) → Type 0
AreShortIfBare parts = All CanBeWritten parts → All (λ part. part.payload ≡ []) parts → length parts < 2 ^ 32
    → length (bundle_bytes parts) ≤ around_parts + length parts * greatest_bare_part
