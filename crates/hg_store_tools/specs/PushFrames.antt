-- The frame of a push, as a follower of a store writes it.
use Rattle.std.specs.Prelude.{ℕ, ◌≡◌, ⊤, List, ◌∷◌, ◌++◌, Option, length}
use Rattle.std.specs.Int.{w32, w64, to_be_bytes}
use Rattle.std.specs.Io.KnownBytes.{Appends}
use Rattle.sha1.specs.Sha1.{sha1}
use Rattle.hg_store.specs.Entries.{Stamp}
use Rattle.hg_store_tools.specs.declared.fault.Fault.{Fault}
use Rattle.hg_store_tools.specs.declared.fault.Fault.TheVariants.{NoBundle, NoMemory, Unsent}

-- what stands before the bundle: the place as eight bytes, the time as eight, the length of the name as one, the name,
-- the length of the bundle as four, and its SHA-1
abbrev pub frame_front : ℕ → Stamp → List ℕ → List ℕ
frame_front place stamp bundle =
    to_be_bytes w64 place
    ++ (to_be_bytes w64 stamp.time
    ++ (length stamp.name ∷ stamp.name ++ (to_be_bytes w32 (length bundle) ++ sha1 bundle)))

-- the frame of the push at a place, with this stamp and this bundle
abbrev pub push_frame : ℕ → Stamp → List ℕ → List ℕ
push_frame place stamp bundle = frame_front place stamp bundle ++ bundle

-- why a frame was not written; of memory nothing is said
abbrev pub IsUnframed : Fault → ℕ → Type 0
IsUnframed (NoBundle at) place = at ≡ place
IsUnframed NoMemory place = ⊤
IsUnframed Unsent place = ⊤
IsUnframed other place = ⊥

-- A front of the frame was written, and no more of it for that reason.
pub record SendsFront (fault : Fault) (place : ℕ) (frame : List ℕ) (before after : Option (List ℕ)) : Type 0 where
  pub part : List ℕ
  pub rest : List ℕ
  pub spelled : frame ≡ part ++ rest
  pub sent : Appends before after part
  pub why : IsUnframed fault place
