-- Messages: two ids and a text, one after the other, and their digests.
use Rattle.std.specs.Prelude.{ℕ, List, ◌++◌, ◌+◌, ◌-◌, ◌≤◌, take, drop, map}
use Rattle.sha1.specs.Sha1.{sha1}
use Rattle.hg_digests.specs.declared.place.Place.{Place}

-- the twenty bytes at a place
abbrev pub id_in : List ℕ → ℕ → List ℕ
id_in bytes at = take 20 (drop at bytes)

-- the bytes between two places
abbrev pub text_in : List ℕ → ℕ → ℕ → List ℕ
text_in bytes from to = take (to - from) (drop from bytes)

-- the message that stands there: its first id, its second id and its text
abbrev pub message_at : List ℕ → Place → List ℕ
message_at bytes place = id_in bytes place.first ++ id_in bytes place.second ++ text_in bytes place.from place.to

-- all of the message is there in so many bytes
abbrev pub IsWithin : ℕ → Place → Type 0
IsWithin length place = (place.first + 20 ≤ length) × (place.second + 20 ≤ length)
    × (place.from ≤ place.to) × (place.to ≤ length)

-- SHA-1 of the message that stands there
abbrev pub digest_at : List ℕ → Place → List ℕ
digest_at bytes place = sha1 (message_at bytes place)

-- SHA-1 of each message
abbrev pub digests_at : List ℕ → List Place → List (List ℕ)
digests_at bytes places = map (digest_at bytes) places
