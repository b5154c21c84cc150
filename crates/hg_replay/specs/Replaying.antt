-- What is replayed: pushes from readers, one after the other, and the report of the repository that they
-- give.
use Rattle.std.specs.Prelude.{ℕ, Bool, ◌≡◌, ◌==◌, ◌+◌, List, [], ◌∷◌, ◌++◌, map, if◌then◌else◌}
use Rattle.std.specs.List.{list_any}
use Rattle.hg_types.specs.Limits.{standard_limits}
use Rattle.hg_types.specs.declared.part.Part.{Part}
use Rattle.hg_repo.specs.declared.done.Done.{Done}
use Rattle.hg_repo.specs.Report.{report_of}
use Rattle.hg_parts.specs.declared.refusal.Refusal.{Refusal}
use Rattle.hg_push.specs.History.{History, serial}
use Rattle.hg_push.specs.declared.outcome.Outcome.{Outcome}
use Rattle.hg_push.specs.Run.{BookOf, RepositoryOf, run_push}
use Rattle.hg_connection.specs.declared.sending.Sending.{Sending}
use Rattle.hg_connection.specs.declared.sending.Sending.TheVariants.{Whole as sent_whole, Broken, NoMemory}
use Rattle.hg_connection.specs.Devices.{Input, Output}
use Rattle.hg_connection.specs.declared.bundle_end.BundleEnd.{BundleEnd}
use Rattle.hg_connection.specs.Receiving.{mark_of, push_items}
use Rattle.hg_replay.specs.Receiving.{Received}
use Rattle.hg_replay.specs.Taking.{PushEnds, IsIdle, PushLeaves}
use Rattle.hg_replay.specs.Answering.{IsSentTo, empty_repository, status_of}

-- What became of the push of a reader: it was received so and ended so; or it was not opened, and nothing was
-- read of it.
pub data Replay (A : Type 0) : Type 0 where
  Ran : BundleEnd → List (Part A) → Outcome (Done A) (Refusal A) → Replay A
  NotOpened : Replay A

-- The readers gave these pushes, in their order: each was received from its reader and run after the history
-- of those before it, with the next number. The last history is that of all that ran.
abbrev pub AreReplayed : {A : Type 0} → RepositoryOf A → ℕ → History A → List Input → List Input →
    List (Replay A) → History A → Type 0
AreReplayed first number before [] [] [] after = after ≡ before
AreReplayed first number before (input ∷ inputs) (left ∷ lefts) (NotOpened ∷ replays) after =
    (left ≡ input) × AreReplayed first number before inputs lefts replays after
AreReplayed first number before (input ∷ inputs) (left ∷ lefts) (Ran ending parts how ∷ replays) after =
    Received standard_limits input left ending parts
    × (ends : PushEnds first before number (push_items number parts (mark_of ending)) how)
    × AreReplayed first (number + 1) (ends.places ++ before) inputs lefts replays after
AreReplayed first number before inputs lefts replays after = ⊥

-- how many of them ran
abbrev pub count_run : {A : Type 0} → List (Replay A) → ℕ
count_run [] = 0
count_run (Ran ending parts how ∷ replays) = count_run replays + 1
count_run (NotOpened ∷ replays) = count_run replays

-- A push has the status that it has where its reply was written; where it was not opened, memory was refused.
abbrev pub replay_status : {A : Type 0} → Replay A → ℕ
replay_status (Ran ending parts how) = status_of ending how sent_whole
replay_status NotOpened = 4

-- the status of a report that was sent so
abbrev pub sending_status : Sending → ℕ
sending_status sent_whole = 0
sending_status Broken = 3
sending_status NoMemory = 4

-- the status is among these
abbrev pub is_told : ℕ → List ℕ → Bool
is_told status statuses = list_any (λ s. s == status) statuses

-- of several statuses 3 is reported before 4, 4 before 1, and 1 before 0
abbrev pub first_told : List ℕ → ℕ
first_told statuses = if is_told 3 statuses then 3 else if is_told 4 statuses then 4
    else if is_told 1 statuses then 1 else 0

-- The pushes of these readers were replayed onto the empty repository, and the report of the repository that
-- the serial run of their history gives was sent. The status says how all of it went.
pub record Replayed (A : Type 0) (publishing : Bool) (inputs lefts : List Input)
    (output output_after : Output) (status : ℕ) : Type 0 where
  pub replays : List (Replay A)
  pub history : History A
  pub replayed : AreReplayed (empty_repository publishing) 0 [] inputs lefts replays history
  pub sending : Sending
  pub sent : IsSentTo sending output output_after
      (report_of (serial run_push (empty_repository publishing) history).repo)
  pub status_is : status ≡ first_told (map replay_status replays ++ sending_status sending ∷ [])

-- what a book makes of a reader's push
abbrev pub IsPlayed : {A : Type 0} → Input → Input → BookOf A → BookOf A → Replay A → Type 0
IsPlayed input left old new NotOpened = (left ≡ input) × (new ≡ old)
IsPlayed {A} input left old new (Ran ending parts how) =
    Received standard_limits input left ending parts
    × (new.next ≡ old.next + 1)
    × ((first : RepositoryOf A) (before : History A) → IsIdle first before old →
    PushLeaves first before old.next (push_items old.next parts (mark_of ending)) how new)

-- One push was replayed on a book, and this is its status.
pub record PlaysOne {A : Type 0} (input left : Input) (old new : BookOf A) (status : ℕ) : Type 0 where
  pub replay : Replay A
  pub played : IsPlayed input left old new replay
  pub status_is : status ≡ replay_status replay

-- The pushes of these readers were replayed on an idle book, after that history, and this is the status that
-- is reported of them.
pub record Plays {A : Type 0} (first : RepositoryOf A) (before : History A) (inputs lefts : List Input)
    (old new : BookOf A) (status : ℕ) : Type 0 where
  pub replays : List (Replay A)
  pub history : History A
  pub replayed : AreReplayed first old.next before inputs lefts replays history
  pub idle : IsIdle first history new
  pub next : new.next ≡ old.next + count_run replays
  pub status_is : status ≡ first_told (map replay_status replays)
