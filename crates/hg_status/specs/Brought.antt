-- How many changesets the changegroups of a bundle bring. Any bytes have some number of them.
use Rattle.std.specs.Prelude.{ℕ, zero, suc, ◌+◌, ◌-◌, ◌^◌, ◌==◌, nat_lt, nat_le, min, Bool, true, false, not, ◌&&◌}
use Rattle.std.specs.Prelude.{List, [], ◌∷◌, length, map, take, drop, Option, Some, None, if◌then◌else◌, codes}
use Rattle.std.specs.Char.{to_ascii_lowercase}
use Rattle.std.specs.Str.{bytes_eq}
use Rattle.std.specs.Int.{w32, from_be_bytes}
use Rattle.hg_status.specs.declared.brought.Came.{Came}
use Rattle.hg_status.specs.declared.brought.Came.TheVariants.{Nothing, One, Two, Three}
use Rattle.hg_status.specs.declared.brought.Group.{Group}
use Rattle.hg_status.specs.declared.brought.Payload.{Payload}

-- the number that the first four bytes are, the high byte first; 0 where there are fewer
abbrev pub number_in : List ℕ → ℕ
number_in bytes = if nat_lt (length bytes) 4 then 0 else from_be_bytes w32 (take 4 bytes)

-- a size is a number below 2^31, and any other is that of no bytes
abbrev pub size_of : ℕ → ℕ
size_of number = if nat_lt number (2 ^ 31) then number else 0

-- the bytes after a size at the front, so many or all that are left
abbrev pub sized_in : List ℕ → List ℕ
sized_in bytes = take (size_of (number_in bytes)) (drop 4 bytes)

-- the bytes after these
abbrev pub after_sized : List ℕ → List ℕ
after_sized bytes = drop (size_of (number_in bytes)) (drop 4 bytes)

-- one more, in 64 bits
abbrev pub one_more : ℕ → ℕ
one_more count = min (count + 1) (2 ^ 64 - 1)

-- ---- the first group of a changegroup, byte by byte: sizes of four bytes, each with itself, and a chunk after each

-- a size came: one that is no longer than itself ends the group, and any other is that of a changeset
abbrev pub with_size : Group → ℕ → Group
with_size group size = if nat_le size 4 then record group { came = Nothing; is_over = true }
    else record group { count = one_more group.count; came = Nothing; left = size - 4 }

-- a byte of a size came
abbrev pub with_byte : Group → Came → ℕ → Group
with_byte group Nothing byte = record group { came = One byte }
with_byte group (One a) byte = record group { came = Two a byte }
with_byte group (Two a b) byte = record group { came = Three a b byte }
with_byte group (Three a b c) byte = with_size group (from_be_bytes w32 (a ∷ b ∷ c ∷ byte ∷ []))

-- a byte came: after the group, in a chunk, or of a size
abbrev pub after_byte : Group → ℕ → Group
after_byte group byte = if group.is_over then group
    else if group.left == 0 then with_byte group group.came byte else record group { left = group.left - 1 }

-- these bytes came
abbrev pub fed : Group → List ℕ → Group
fed group [] = group
fed group (byte ∷ bytes) = fed (after_byte group byte) bytes

-- a group of which nothing came
abbrev pub new_group : Group
new_group = record { count = 0; came = Nothing; left = 0; is_over = false }

-- ---- the payload of a part

-- what a group becomes by a chunk of the payload, where it counts
abbrev pub fed_where : Bool → Group → List ℕ → Group
fed_where true group chunk = fed group chunk
fed_where false group chunk = group

-- What follows in a payload: 0 ends it, or the part that interrupts it; -1 is followed by the header of a part that
-- interrupts it; and any other size is that of a chunk.
abbrev pub next_payload : Bool → Payload → List ℕ → Option Payload
next_payload counts payload bytes = if number_in bytes == 0
    then (if payload.is_inside then Some (record payload { is_inside = false }) else None)
    else if number_in bytes == 2 ^ 32 - 1 then Some (record payload { is_inside = true })
    else Some (record payload { group = fed_where (counts && not payload.is_inside) payload.group (sized_in bytes) })

-- the bytes after that
abbrev pub next_bytes : List ℕ → List ℕ
next_bytes bytes = if number_in bytes == 2 ^ 32 - 1 then after_sized (drop 4 bytes) else after_sized bytes

-- the payload to its end, in so many steps at most, and the bytes after it
abbrev pub payload_read : ℕ → Bool → Payload → List ℕ → Group × List ℕ
payload_read zero counts payload bytes = (payload.group, bytes)
payload_read (suc steps) counts payload bytes = elim (next_payload counts payload bytes) [
  | None ↦ (payload.group, next_bytes bytes)
  | Some next ↦ payload_read steps counts next (next_bytes bytes)
]

-- how many changesets a payload has; each step except the last takes four bytes, so there are enough of them
abbrev pub changesets_of : Bool → List ℕ → ℕ
changesets_of counts bytes =
    (payload_read (length bytes) counts (record { group = new_group; is_inside = false }) bytes).0.count

-- the bytes after a payload
abbrev pub after_payload : Bool → List ℕ → List ℕ
after_payload counts bytes =
    (payload_read (length bytes) counts (record { group = new_group; is_inside = false }) bytes).1

-- ---- the bundle

-- a header begins with the length of the type of its part, which follows
abbrev pub is_changegroup : List ℕ → Bool
is_changegroup [] = false
is_changegroup (size ∷ after) = bytes_eq (map to_ascii_lowercase (take size after)) (codes "changegroup")

-- the changesets of the parts, in so many steps at most, and of those before; a header of no bytes ends the bundle
abbrev pub parts_read : ℕ → ℕ → List ℕ → ℕ
parts_read zero count bytes = count
parts_read (suc steps) count bytes = if length (sized_in bytes) == 0 then count
    else (let counts = is_changegroup (sized_in bytes) in
    parts_read steps (min (count + changesets_of counts (after_sized bytes)) (2 ^ 64 - 1))
    (after_payload counts (after_sized bytes)))

-- the changesets of a bundle: its magic has four bytes, and its parameters stand after their size
abbrev pub changesets_in : List ℕ → ℕ
changesets_in bytes = parts_read (length bytes) 0 (after_sized (drop 4 bytes))
