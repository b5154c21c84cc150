-- What holds of all bundles.
use Rattle.std.specs.Prelude.{◌≡◌, ◌↔◌, ◌⊎◌, ℕ, ◌+◌, ◌<◌, ◌≤◌, ◌^◌, List, [], ◌∷◌, ◌++◌, length, Option, Some}
use Rattle.std.specs.Prelude.{None}
use Rattle.std.specs.List.{All}
use Rattle.hg_types.specs.declared.limits.Limits.{Limits}
use Rattle.hg_types.specs.declared.part.Part.{Part}
use Rattle.hg_params.specs.Writing.{cased}
use Rattle.hg_stream.specs.declared.fault.StreamFault.{StreamFault}
use Rattle.hg_stream.specs.Frames.{IsWhole, IsBundle}
use Rattle.hg_stream.specs.Places.{IsReading}
use Rattle.hg_stream.specs.Faults.{Decides, IsFault}
use Rattle.hg_stream.specs.Written.{bundle_bytes, CanBeWritten}

-- a part as it is read after so many others: its type is cased, and its id is its place
abbrev pub read_part : {A : Type 0} → ℕ → Part A → Part A
read_part place part =
    record { kind = cased part.kind; id = place; params = part.params; payload = part.payload }

-- the parts in order, from a place on
abbrev pub read_parts : {A : Type 0} → ℕ → List (Part A) → List (Part A)
read_parts place [] = []
read_parts place (part ∷ parts) = read_part place part ∷ read_parts (place + 1) parts

-- the parts can be written, and their bundle is within the limits
pub record AreWithin {A : Type 0} (limits : Limits) (parts : List (Part A)) : Type 0 where
  pub writable : All CanBeWritten parts
  pub numbered : length parts < 2 ^ 32
  pub few : length parts ≤ limits.parts
  pub payloads : All (λ part. length part.payload ≤ limits.payload) parts
  pub stream : length (bundle_bytes parts) ≤ limits.stream

-- what is written of such parts is a bundle with these parts, as they are read
abbrev pub IsReadBack : {A : Type 0} → Limits → List (Part A) → Type 0
IsReadBack limits parts = AreWithin limits parts → IsBundle limits (bundle_bytes parts) (read_parts 0 parts)

-- of parts that can be written, the bundle is one with these parts exactly where they are within the limits
abbrev pub IsWithinAsPartsAre : {A : Type 0} → Limits → List (Part A) → Type 0
IsWithinAsPartsAre limits parts = All CanBeWritten parts → length parts < 2 ^ 32 →
    (AreWithin limits parts ↔ IsBundle limits (bundle_bytes parts) (read_parts 0 parts))

-- Bytes that begin with two whole bundles begin with one, and it has one list of parts. No bundle is the
-- front of another.
abbrev pub AreReadInOneWay : (A : Type 0) → Limits → Type 0
AreReadInOneWay A limits = (a b x y : List ℕ) (ps qs : List (Part A)) → IsWhole limits a ps →
    IsWhole limits b qs → a ++ x ≡ b ++ y → (a ≡ b) × (ps ≡ qs) × (x ≡ y)

-- a whole bundle, or bytes whose last one decides a fault
abbrev pub IsSettled : {A : Type 0} → Option StreamFault → Limits → List ℕ → List (Part A) → Type 0
IsSettled None limits bytes parts = IsWhole limits bytes parts
IsSettled (Some fault) limits bytes parts = Decides fault limits bytes parts

-- A stream is settled at one place. All bytes before that place are still read; the bytes up to it are a
-- whole bundle or decide a fault, in one way and with one list of parts; and whatever follows, no longer ones
-- are read or settled. Bytes that are still read have one list of parts too.
pub record AreSettledOnce (A : Type 0) (limits : Limits) : Type 0 where
  pub read_before : (front behind : List ℕ) (byte : ℕ) (parts : List (Part A)) (v : Option StreamFault) →
      IsSettled v limits (front ++ byte ∷ behind) parts
      → (before : List (Part A)) × IsReading limits front before
  pub one_place : (a b x y : List ℕ) (ps qs : List (Part A)) (v w : Option StreamFault) →
      IsSettled v limits a ps → IsSettled w limits b qs → a ++ x ≡ b ++ y
      → (a ≡ b) × (ps ≡ qs) × (v ≡ w)
  pub not_read_after : (a x : List ℕ) (ps qs : List (Part A)) (v : Option StreamFault) →
      IsSettled v limits a ps → IsReading limits (a ++ x) qs → ⊥
  pub one_reading : (bytes : List ℕ) (ps qs : List (Part A)) → IsReading limits bytes ps →
      IsReading limits bytes qs → ps ≡ qs

-- the bytes are still read, or a front of them is settled
abbrev pub IsReadOrSettled : Type 0 → Limits → List ℕ → Type 0
IsReadOrSettled A limits bytes = ((parts : List (Part A)) × IsReading limits bytes parts)
    ⊎ ((front behind : List ℕ) × (parts : List (Part A)) × (v : Option StreamFault)
    × IsSettled v limits front parts × (bytes ≡ front ++ behind))

-- a bundle, within the limit on the stream, or bytes whose last one shows a fault, one byte past it at most
abbrev pub IsVerdict : {A : Type 0} → Option StreamFault → Limits → List ℕ → List (Part A) → Type 0
IsVerdict None limits bytes parts = IsBundle limits bytes parts
IsVerdict (Some fault) limits bytes parts = IsFault limits bytes parts fault

-- A stream has a verdict at one place at most, which is what the reader reports. All bytes before that place
-- are within the limit on the stream, and still read; there they are a bundle or show a fault, one alone and
-- with one list of parts; and whatever follows, no longer ones have a verdict, or are still read within the
-- limit.
pub record HasOneVerdict (A : Type 0) (limits : Limits) : Type 0 where
  pub read_before : (front behind : List ℕ) (byte : ℕ) (parts : List (Part A)) (v : Option StreamFault) →
      IsVerdict v limits (front ++ byte ∷ behind) parts
      → (length front ≤ limits.stream) × (before : List (Part A)) × IsReading limits front before
  pub one_place : (a b x y : List ℕ) (ps qs : List (Part A)) (v w : Option StreamFault) →
      IsVerdict v limits a ps → IsVerdict w limits b qs → a ++ x ≡ b ++ y
      → (a ≡ b) × (ps ≡ qs) × (v ≡ w)
  pub not_read_after : (a x : List ℕ) (ps qs : List (Part A)) (v : Option StreamFault) →
      IsVerdict v limits a ps → IsReading limits (a ++ x) qs → length (a ++ x) ≤ limits.stream → ⊥

-- the bytes are still read within the limit on the stream, or a front of them has a verdict
abbrev pub IsReadOrJudged : Type 0 → Limits → List ℕ → Type 0
IsReadOrJudged A limits bytes = ((parts : List (Part A)) × IsReading limits bytes parts
    × (length bytes ≤ limits.stream))
    ⊎ ((front behind : List ℕ) × (parts : List (Part A)) × (v : Option StreamFault)
    × IsVerdict v limits front parts × (bytes ≡ front ++ behind))
