-- Messages that are hashed side by side.
use Rattle.std.specs.Prelude.{◌≡◌, ◌⊎◌, ℕ, List, ◌<◌, ◌+◌, ◌^◌, length, map}
use Rattle.sha1.specs.Sha1.{compress, hash_after, padded_message, sha1}
use Rattle.hg_digests.specs.declared.lane.Lane.{Lane}
use Rattle.hg_digests.specs.declared.lanes.Lanes.{Lanes}
use Rattle.hg_digests.specs.declared.place.Place.{Place}
use Rattle.hg_digests.specs.Messages.{message_at}
use Rattle.hg_digests.specs.code.Blocks.{block_of, count_of}
use Rattle.hg_digests.specs.code.Lanes.{own}

-- the messages
abbrev pub messages_at : List ℕ → List Place → List (List ℕ)
messages_at bytes places = map (message_at bytes) places

-- the message of a lane: the hash value is that of the blocks that were taken, and the others are left
pub record IsMessage (messages : List (List ℕ)) (lane : Lane) : Type 0 where
  pub there : lane.number < length messages
  pub blocks : lane.taken + lane.left ≡ count_of (length (own messages lane.number))
  pub short : lane.taken + lane.left < 2 ^ 60
  pub hash : lane.hash ≡ hash_after (padded_message (own messages lane.number)) lane.taken

-- a lane has a message, or none
abbrev pub IsLane : List (List ℕ) → Lane → Type 0
IsLane messages lane = 0 < lane.left → IsMessage messages lane

-- it is the hash value after the next block of the lane's message, if it has one
abbrev pub IsNext : List (List ℕ) → Lane → List ℕ → Type 0
IsNext messages lane hash = 0 < lane.left → hash ≡ compress lane.hash (block_of (own messages lane.number) lane.taken)

-- the digest of that number is the message's
abbrev pub IsRight : List (List ℕ) → List (List ℕ) → ℕ → Type 0
IsRight messages digests i = own digests i ≡ sha1 (own messages i)

-- the lane has the message of that number
abbrev pub Has : ℕ → Lane → Type 0
Has i lane = (0 < lane.left) × (lane.number ≡ i)

-- A lane after its next block: what it had it still has, or its digest is right; and what was right is right.
pub record Advances (messages : List (List ℕ)) (lane next : Lane) (old new : List (List ℕ)) : Type 0 where
  pub sound : IsLane messages next
  pub has : (i : ℕ) → Has i lane → Has i next ⊎ IsRight messages new i
  pub right : (i : ℕ) → IsRight messages old i → IsRight messages new i

-- a lane has the message of that number, or its digest is right
abbrev pub IsInHand : List (List ℕ) → Lanes → List (List ℕ) → ℕ → Type 0
IsInHand messages lanes digests i =
    Has i lanes.a ⊎ Has i lanes.b ⊎ Has i lanes.c ⊎ Has i lanes.d ⊎ IsRight messages digests i

-- Each lane has a message or none, and each message that has begun is in a lane, or its digest is right.
pub record IsHashing (messages : List (List ℕ)) (lanes : Lanes) (digests : List (List ℕ)) : Type 0 where
  pub a : IsLane messages lanes.a
  pub b : IsLane messages lanes.b
  pub c : IsLane messages lanes.c
  pub d : IsLane messages lanes.d
  pub room : length digests ≡ length messages
  pub begun : (i : ℕ) → i < lanes.begun → IsInHand messages lanes digests i
