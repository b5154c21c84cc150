-- What the one that follows a store has written: the frames of records that are durable.
use Rattle.std.specs.Prelude.{ℕ, ◌≡◌, ◌⊎◌, ◌+◌, ◌<◌, ◌≤◌, ⊤, List, [], ◌∷◌, ◌++◌, Option, Some, None, length}
use Rattle.std.specs.Io.KnownBytes.{Appends}
use Rattle.hg_store.specs.Entries.{Entry}
use Rattle.hg_store_tools.specs.declared.fault.Fault.{Fault}
use Rattle.hg_store_tools.specs.declared.fault.Fault.TheVariants.{Damaged, Failed, NoBundle, NoMemory, Torn, Unsent}
use Rattle.hg_store_tools.specs.declared.follow.FollowEnd.{FollowEnd}
use Rattle.hg_store_tools.specs.declared.follow.FollowEnd.TheVariants.{Left, Stopped}
use Rattle.hg_store_tools.specs.declared.form.BundleForm.{BundleForm}
use Rattle.hg_store_tools.specs.PushFrames.{push_frame}
use Rattle.hg_store_tools.specs.Logging.{IsInForm, LogForm}

-- the records that were found, with the next one
abbrev pub with_next : List Entry → Option Entry → List Entry
with_next found None = found
with_next found (Some next) = found ++ next ∷ []

-- why no record is found after so many; of a device that failed and of memory nothing is said
abbrev pub EndsTrail : Fault → ℕ → Type 0
EndsTrail (Damaged place) whole = place ≡ whole
EndsTrail (Torn place) whole = place ≡ whole
EndsTrail NoMemory whole = ⊤
EndsTrail Failed whole = ⊤
EndsTrail other whole = ⊥

-- why a file is not synced: its device failed, or memory was refused
abbrev pub EndsSync : Fault → Type 0
EndsSync NoMemory = ⊤
EndsSync Failed = ⊤
EndsSync other = ⊥

-- what is written of the record at a place: nothing before those that are asked for, and then its frame, with its
-- bundle
-- in the form that is asked for
abbrev pub IsFrameOf : Type 0 → LogForm → ℕ → Entry → List ℕ → Type 0
IsFrameOf A log place entry frame = ((place < log.from) × (frame ≡ [])) ⊎ ((log.from ≤ place)
    × (bundle : List ℕ) × IsInForm log.form A log.limits entry.bundle bundle
    × (frame ≡ push_frame place entry.stamp bundle))

-- the same of records, the first of which is at this place: one frame after the other
abbrev pub AreFramesOf : Type 0 → LogForm → ℕ → List Entry → List ℕ → Type 0
AreFramesOf A log place [] bytes = bytes ≡ []
AreFramesOf A log place (entry ∷ others) bytes = (frame : List ℕ) × (more : List ℕ) × (bytes ≡ frame ++ more)
    × IsFrameOf A log place entry frame × AreFramesOf A log (place + 1) others more

-- a front of what is written of the record at a place
abbrev pub IsFrontOf : Type 0 → LogForm → ℕ → Entry → List ℕ → Type 0
IsFrontOf A log place entry part =
    (part ≡ []) ⊎ ((rest : List ℕ) × IsFrameOf A log place entry (part ++ rest))

-- a front of what is written of the first of these records, of which there may be none
abbrev pub IsFrontOfFirst : Type 0 → LogForm → ℕ → List Entry → List ℕ → Type 0
IsFrontOfFirst A log place [] part = part ≡ []
IsFrontOfFirst A log place (entry ∷ others) part = IsFrontOf A log place entry part

-- why no more is written, where so many records were written and the next one stands at this place
abbrev pub EndsAt : Fault → ℕ → Type 0
EndsAt (Damaged at) place = at ≡ place
EndsAt (Torn at) place = at ≡ place
EndsAt (NoBundle at) place = at ≡ place
EndsAt NoMemory place = ⊤
EndsAt Failed place = ⊤
EndsAt Unsent place = ⊤
EndsAt other place = ⊥

-- the frame of the record at a place was written, or none is asked for
abbrev pub SendsFrame : Type 0 → LogForm → ℕ → Entry → Option (List ℕ) → Option (List ℕ) → Type 0
SendsFrame A log place entry before after =
    (frame : List ℕ) × IsFrameOf A log place entry frame × Appends before after frame

-- it was not written, or a front of it alone
abbrev pub SendsNoFrame : Type 0 → LogForm → ℕ → Entry → Fault → Option (List ℕ) → Option (List ℕ) → Type 0
SendsNoFrame A log place entry fault before after =
    (part : List ℕ) × IsFrontOf A log place entry part × Appends before after part × EndsAt fault place

-- the frames of records were written, the first of which is at this place, and the next place is behind them
abbrev pub SendsFrames : Type 0 → LogForm → ℕ → List Entry → ℕ → Option (List ℕ) → Option (List ℕ) → Type 0
SendsFrames A log place records next before after = (next ≡ place + length records)
    × (frames : List ℕ) × AreFramesOf A log place records frames × Appends before after frames

-- The frames of the first records were written, and at most a front of the next one's.
pub record StopsSending (A : Type 0) (log : LogForm) (place : ℕ) (records : List Entry) (fault : Fault)
    (before after : Option (List ℕ)) : Type 0 where
  pub whole : List Entry
  pub left : List Entry
  pub split : records ≡ whole ++ left
  pub frames : List ℕ
  pub are : AreFramesOf A log place whole frames
  pub part : List ℕ
  pub front : IsFrontOfFirst A log (place + length whole) left part
  pub sent : Appends before after (frames ++ part)
  pub why : EndsAt fault (place + length whole)

-- More records were found, or none, and their frames were written. So many are found now, and where there are more than
-- before all of them are durable. The first that was ever found is at that place.
pub record Follows (A : Type 0) (log : LogForm) (first next : ℕ) (found durable now_found now_durable : List Entry)
    (before after : Option (List ℕ)) : Type 0 where
  pub more : List Entry
  pub found_is : now_found ≡ found ++ more
  pub count : next ≡ first + length now_found
  pub synced : ((more ≡ []) × (now_durable ≡ durable)) ⊎ (now_durable ≡ now_found)
  pub frames : List ℕ
  pub are : AreFramesOf A log (first + length found) more frames
  pub sent : Appends before after frames

-- More records were found, or none. Nothing was written, and no other is durable than before; or all are durable, and
-- the
-- frames of the first of them were written, and at most a front of the next one's.
pub data StopsFollowing (A : Type 0) (log : LogForm) (first : ℕ) (fault : Fault)
    (found durable now_found now_durable : List Entry) (before after : Option (List ℕ)) : Type 0 where
  unsynced : (more : List Entry) → now_found ≡ found ++ more → now_durable ≡ durable → after ≡ before →
      EndsAt fault (first + length found) →
      StopsFollowing A log first fault found durable now_found now_durable before after
  unsent : (more : List Entry) → now_found ≡ found ++ more → now_durable ≡ now_found →
      StopsSending A log (first + length found) more fault before after →
      StopsFollowing A log first fault found durable now_found now_durable before after

-- why a store is followed no more, by where the next frame would stand
abbrev pub EndsSoAt : FollowEnd → ℕ → Type 0
EndsSoAt Left place = ⊤
EndsSoAt (Stopped fault) place = EndsAt fault place

-- The frames of the first of the records that were found were written, from the place on that was asked for and each
-- once, and at most a front of the next one's. All of these records are durable. The first of them is at that place.
pub record HasFollowed (A : Type 0) (log : LogForm) (first : ℕ) (end : FollowEnd) (found durable : List Entry)
    (before after : Option (List ℕ)) : Type 0 where
  pub whole : List Entry
  pub left : List Entry
  pub found_is : found ≡ whole ++ left
  pub frames : List ℕ
  pub are : AreFramesOf A log first whole frames
  pub part : List ℕ
  pub front : IsFrontOfFirst A log (first + length whole) left part
  pub synced : (durable ≡ found) ⊎ ((part ≡ []) × (durable ≡ whole))
  pub sent : Appends before after (frames ++ part)
  pub why : EndsSoAt end (first + length whole)

-- Nothing was written, since the file has no head or was not read; or the frames of records that were found in it, each
-- durable. The first that was looked for is not behind the place from which on they are written.
abbrev pub IsFollowed : BundleForm → Type 0 → ℕ → FollowEnd → Option (List ℕ) → Option (List ℕ) → Type 0
IsFollowed form A from end before after = (after ≡ before) ⊎ ((log : LogForm) × (log.form ≡ form) × (log.from ≡ from)
    × (first : ℕ) × (first ≤ from) × (found : List Entry) × (durable : List Entry)
    × HasFollowed A log first end found durable before after)
