-- The bundle that is written of a list of parts.
use Rattle.std.specs.Prelude.{ℕ, ◌+◌, ◌<◌, ◌^◌, List, [], ◌∷◌, ◌++◌, length}
use Rattle.hg_types.specs.declared.part.Part.{Part}
use Rattle.hg_chunks.specs.Payload.{closing, payload_bytes}
use Rattle.hg_params.specs.Writing.{cased, header_bytes, IsWritable}
use Rattle.hg_stream.specs.Block.{sized}
use Rattle.hg_stream.specs.Frames.{magic}

-- a part with that number: its header after its size, and its payload in at most one chunk
abbrev pub part_bytes : {A : Type 0} → ℕ → Part A → List ℕ
part_bytes place part = sized (header_bytes (cased part.kind) place part.params) ++ payload_bytes part.payload

-- the parts in order, numbered from a place on
abbrev pub parts_bytes : {A : Type 0} → ℕ → List (Part A) → List ℕ
parts_bytes place [] = []
parts_bytes place (part ∷ parts) = part_bytes place part ++ parts_bytes (place + 1) parts

-- the magic, no stream parameters, the parts numbered by their places, and the end mark
abbrev pub bundle_bytes : {A : Type 0} → List (Part A) → List ℕ
bundle_bytes parts = (magic ++ sized []) ++ (parts_bytes 0 parts ++ closing)

-- a part that a bundle can carry: its header can be written, and its payload is one chunk at most
pub record CanBeWritten {A : Type 0} (part : Part A) : Type 0 where
  pub header : IsWritable part
  pub payload : length part.payload < 2 ^ 31
