-- How long the bundle of parts is that have no payload.
use Rattle.std.proofs.Common.{◌≡◌, ℕ, ◌+◌, ◌*◌, ◌<◌, ◌≤◌, ◌^◌, List, [], ◌∷◌, ◌++◌, length, ap, arith}
use Rattle.std.proofs.Common.{length-append}
use Rattle.std.specs.Prelude.{pos}
use Rattle.std.specs.List.{AllByRecursion}
use Rattle.std.proofs.lemmas.List.Elements.{recursion_from_All}
use Rattle.hg_types.specs.declared.part.Part.{Part}
use Rattle.hg_chunks.specs.Size.{size_bytes}
use Rattle.hg_chunks.specs.Payload.{closing, payload_bytes}
use Rattle.hg_params.specs.Writing.{cased, header_bytes}
use Rattle.hg_stream.specs.Block.{sized}
use Rattle.hg_stream.specs.Frames.{magic}
use Rattle.hg_stream.specs.Written.{part_bytes, parts_bytes, CanBeWritten}
use Rattle.hg_stream.specs.Lengths.{greatest_bare_part, AreShortIfBare}
use Rattle.hg_stream.proofs.HeaderSizes.{header_within}

sized_length : (block : List ℕ) → length (sized block) ≡ 4 + length block
sized_length block = length-append (size_bytes (pos (length block))) block

part_short : {A : Type 0} (place : ℕ) (part : Part A) → place < 2 ^ 32 → CanBeWritten part → part.payload ≡ []
    → length (part_bytes place part) ≤ greatest_bare_part
part_short place part number can bare =
    let header = header_bytes (cased part.kind) place part.params in
    let small = header_within part.kind place part.params number can.header in
    let block = sized_length header in
    let closed : length (payload_bytes part.payload) ≡ 4 = ap (λ (p : List ℕ). length (payload_bytes p)) bare
    in
    let sum = length-append (sized header) (payload_bytes part.payload) in
    omega (arith, small, block, closed, sum)

parts_short : {A : Type 0} (place : ℕ) (parts : List (Part A)) → place + length parts ≤ 2 ^ 32
    → AllByRecursion CanBeWritten parts → AllByRecursion (λ part. part.payload ≡ []) parts
    → length (parts_bytes place parts) ≤ length parts * greatest_bare_part
parts_short place [] numbers can bare = omega arith
parts_short place (part ∷ parts) numbers can bare =
    let first = part_short place part (omega (arith, numbers)) can.0 bare.0 in
    let rest = parts_short (place + 1) parts (omega (arith, numbers)) can.1 bare.1 in
    let sum = length-append (part_bytes place part) (parts_bytes (place + 1) parts) in
    omega (arith, first, rest, sum)

pub short_if_bare : {A : Type 0} (parts : List (Part A)) → AreShortIfBare parts
short_if_bare parts can bare numbered =
    let inner = parts_short 0 parts (omega (arith, numbered)) (recursion_from_All CanBeWritten parts can)
    (recursion_from_All (λ part. part.payload ≡ []) parts bare) in
    let front = length-append (magic ++ sized []) (parts_bytes 0 parts ++ closing) in
    let back = length-append (parts_bytes 0 parts) closing in
    omega (arith, inner, front, back)
