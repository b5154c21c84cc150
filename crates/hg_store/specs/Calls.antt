-- The calls on a file with their answers, and what they make of it where each did what it answered.
use Rattle.std.specs.Prelude.{ℕ, zero, suc, ◌≡◌, ◌⊎◌, ◌+◌, ◌<◌, ◌≤◌, Bool, true, false, List, [], ◌∷◌, ◌++◌, length, take, drop, ⊤}
use Rattle.std.specs.Prelude.{◌==◌, ◌&&◌, if◌then◌else◌}
use Rattle.hg_store.specs.Device.{Cut, Only, Torn}

-- A call: which one, a place or a length, bytes, and whether it answered Ok.
abbrev pub Event : Type 0
Event = ℕ × ℕ × List ℕ × Bool

-- The file was synced, what the system kept of it was dropped, and these bytes were read.
abbrev pub began : List ℕ → Event
began bytes = (0, 0, bytes, true)

-- these bytes were written from that place on, all of them where it answered Ok
abbrev pub wrote : ℕ → List ℕ → Bool → Event
wrote at bytes ok = (1, at, bytes, ok)

-- the file was cut to that length
abbrev pub shortened : ℕ → Bool → Event
shortened len ok = (2, len, [], ok)

-- all that was written is on the disk
abbrev pub synced : Bool → Event
synced ok = (3, 0, [], ok)

-- no call was made, since one had failed before, or the bytes had been read
abbrev pub gave_up : Event
gave_up = (4, 0, [], false)

-- the file got the name of the store, in the place of one that had it, and its folder was synced
abbrev pub placed : Bool → Event
placed ok = (5, 0, [], ok)

-- in a folder: no file had the name of the store
abbrev pub missed : Event
missed = (6, 0, [], true)

-- in a folder: a file was made that may get the name of the store, in the place of one that has it
abbrev pub renewed : Event
renewed = (7, 0, [], true)

-- in a folder: these bytes were kept in a new file, all of them on the disk: what stood after so many records
abbrev pub tail_kept : ℕ → List ℕ → Event
tail_kept place bytes = (8, place, bytes, true)

-- of a file that is read, these bytes came next
abbrev pub came : List ℕ → Event
came bytes = (9, 0, bytes, true)

-- of a file that is read, it is read once more from that place on
abbrev pub went_back : ℕ → Event
went_back place = (10, place, [], true)

-- the file was held against other processes, synced, and what the system kept of it was dropped
abbrev pub was_held : Event
was_held = (11, 0, [], true)

-- of a file that is held, these bytes were read that stand from that place on, beside those that were drawn
abbrev pub looked : ℕ → List ℕ → Event
looked at bytes = (12, at, bytes, true)

-- the bytes that came of a file by these pieces, of which the newest comes first
abbrev pub bytes_in : List Event → List ℕ
bytes_in [] = []
bytes_in (piece ∷ earlier) = if piece.0 == 10 then take piece.1 (bytes_in earlier) else bytes_in earlier ++ piece.2

-- A file gave so many bytes more than were drawn from it, or fewer, and then its end was met. They were appended to
-- others.
pub record ReadsOn (count : ℕ) (bytes grown drawn drew : List ℕ) (is_over : Bool) : Type 0 where
  pub more : List ℕ
  pub appended : grown ≡ bytes ++ more
  pub came : drew ≡ drawn ++ more
  pub few : length more ≤ count
  pub short : length more < count → is_over ≡ true
  pub full : length more ≡ count → is_over ≡ false

-- What is known of a file.
pub record FileState : Type 0 where
  -- the bytes that a read returns
  pub seen : List ℕ
  -- those that were on the disk at the last sync
  pub kept : List ℕ
  -- the writes and the cuts since, the newest first
  pub since : List Event
  -- a call failed: nothing that comes after it is known to be on the disk
  pub failed : Bool
  -- how many did
  pub faults : ℕ

-- a sync after a call that failed reports nothing
abbrev pub after_sync : Bool → FileState → FileState
after_sync false file = record file { kept = file.seen; since = [] }
after_sync true file = file

-- A call that failed may have been made in part.
abbrev pub after_call : ℕ → ℕ → List ℕ → Bool → FileState → FileState
after_call zero at bytes ok file =
    record { seen = bytes; kept = bytes; since = []; failed = false; faults = file.faults }
after_call (suc zero) at bytes true file = record file {
  seen = take at file.seen ++ bytes ++ drop (at + length bytes) file.seen;
  since = wrote at bytes true ∷ file.since;
}
after_call (suc zero) at bytes false file =
    record file { since = wrote at bytes false ∷ file.since; failed = true; faults = file.faults + 1 }
after_call (suc (suc zero)) len bytes true file =
    record file { seen = take len file.seen; since = shortened len true ∷ file.since }
after_call (suc (suc zero)) len bytes false file =
    record file { since = shortened len false ∷ file.since; failed = true; faults = file.faults + 1 }
after_call (suc (suc (suc zero))) at bytes true file = after_sync file.failed file
after_call (suc (suc (suc (suc (suc more))))) at bytes true file = file
after_call (suc (suc (suc more))) at bytes ok file = record file { failed = true; faults = file.faults + 1 }

-- a file that held these bytes, after these calls, of which the newest comes first
abbrev pub state_from : List ℕ → List Event → FileState
state_from held [] = record { seen = held; kept = held; since = []; failed = false; faults = 0 }
state_from held (call ∷ earlier) = after_call call.0 call.1 call.2 call.3 (state_from held earlier)

-- a file after these calls: what it held before its bytes were read is of no matter
abbrev pub state_of : List Event → FileState
state_of calls = state_from [] calls

-- the calls that were made until then, and more after them, or none
abbrev pub Continue : List Event → List Event → Type 0
Continue earlier calls = (more : List Event) × (calls ≡ more ++ earlier)

-- the newest call was a write that answered Ok
abbrev pub ends_written : List Event → Bool
ends_written [] = false
ends_written (call ∷ earlier) = (call.0 == 1) && call.3

-- a sync that answered Ok, right behind such a write
abbrev pub is_beat : Event → List Event → Bool
is_beat call earlier = (call.0 == 3) && (call.3 && ends_written earlier)

-- how many of the calls were beats
abbrev pub beats_in : List Event → ℕ
beats_in [] = 0
beats_in (call ∷ earlier) = (if is_beat call earlier then 1 else 0) + beats_in earlier

-- a call of these failed
abbrev pub HasFailed : List Event → Type 0
HasFailed calls = 0 < (state_of calls).faults

-- what a crash may make of a write or a cut that was not synced
abbrev pub CrashLeaves : ℕ → ℕ → List ℕ → List ℕ → List ℕ → Type 0
CrashLeaves (suc zero) at bytes old new = Torn at bytes old new
CrashLeaves which len bytes old new = Cut len old new

-- the file of the last sync, after what a crash made of each write and cut since
abbrev pub CrashReaches : List ℕ → List Event → List ℕ → Type 0
CrashReaches kept [] left = left ≡ kept
CrashReaches kept (call ∷ earlier) left =
    (before : List ℕ) × CrashReaches kept earlier before × CrashLeaves call.0 call.1 call.2 before left

-- what a crash may leave: all that was written, or what it made of it
abbrev pub MayLeave : FileState → List ℕ → Type 0
MayLeave file left = (left ≡ file.seen) ⊎ CrashReaches file.kept file.since left

-- the same at some moment before the newest call and not before the t-th
abbrev pub LeftBefore : List Event → ℕ → List ℕ → Type 0
LeftBefore [] t left = ⊥
LeftBefore (call ∷ earlier) t left =
    (t ≤ length earlier) × (MayLeave (state_of earlier) left ⊎ LeftBefore earlier t left)

-- the same at some moment from the t-th call on
abbrev pub LeftSince : List Event → ℕ → List ℕ → Type 0
LeftSince calls t left = MayLeave (state_of calls) left ⊎ LeftBefore calls t left

-- what the file has where it gets the name of the store: these bytes, all of them on the disk
abbrev pub IsWholeAt : ℕ → List ℕ → FileState → Type 0
IsWholeAt (suc (suc (suc (suc (suc more))))) bytes file = Only bytes (MayLeave file)
IsWholeAt other bytes file = ⊤

-- the same of each call that gave the file that name, where it held some bytes at first
abbrev pub IsPlacedFrom : List ℕ → List ℕ → List Event → Type 0
IsPlacedFrom held bytes [] = ⊤
IsPlacedFrom held bytes (call ∷ earlier) =
    IsWholeAt call.0 bytes (state_from held earlier) × IsPlacedFrom held bytes earlier

-- whenever the file got the name of the store, it had these bytes, all of them on the disk, whatever it
-- held at first
abbrev pub IsPlacedWhole : List ℕ → List Event → Type 0
IsPlacedWhole bytes calls = (held : List ℕ) → IsPlacedFrom held bytes calls

-- the newest call gave it that name
abbrev pub IsPlaced : List Event → Type 0
IsPlaced calls = (earlier : List Event) × (calls ≡ placed true ∷ earlier)
