-- Stretches of bytes that were hashed.
use Rattle.std.specs.Prelude.{◌≡◌, ℕ, List}
use Rattle.hg_digests.specs.Messages.{digest_at}
use Rattle.hg_types.specs.declared.payload.Stretch.{Stretch}

-- the digest is SHA-1 of what stands at its place
abbrev pub IsOfStretch : List ℕ → Stretch → Type 0
IsOfStretch bytes stretch = stretch.digest.0 ≡ digest_at bytes stretch.place
