-- What is answered to a push.
use Rattle.std.specs.Prelude.{ℕ, ◌≡◌, ◌≤◌, List, [], Bool, length}
use Rattle.hg_types.specs.declared.part.Part.{Part}
use Rattle.hg_types.specs.Limits.{standard_limits}
use Rattle.hg_repo.specs.declared.done.Done.{Done}
use Rattle.hg_parts.specs.declared.refusal.Refusal.{Refusal}
use Rattle.hg_parts.specs.Repository.{Repository, empty_with}
use Rattle.hg_stream.specs.declared.fault.StreamFault.TheVariants.{NoMemory as stream_without_memory}
use Rattle.hg_push.specs.declared.outcome.Outcome.{Outcome}
use Rattle.hg_push.specs.declared.outcome.Outcome.TheVariants.{Done as done_with, Aborted}
use Rattle.hg_push.specs.declared.outcome.Reason.TheVariants.{NoMemory as without_memory}
use Rattle.hg_push.specs.Lengths.{greatest_reply}
use Rattle.hg_push.specs.Reply.{reply_of}
use Rattle.hg_connection.specs.declared.bundle_end.BundleEnd.{BundleEnd}
use Rattle.hg_connection.specs.declared.bundle_end.BundleEnd.TheVariants.{Fault, ReadFailed}
use Rattle.hg_connection.specs.declared.sending.Sending.{Sending}
use Rattle.hg_connection.specs.declared.sending.Sending.TheVariants.{Whole as sent_whole, Broken, NoMemory}
use Rattle.hg_connection.specs.Devices.{Input, Output}
use Rattle.hg_connection.specs.Sent.{Sends}
use Rattle.hg_connection.specs.Receiving.{mark_of, push_items}
use Rattle.hg_replay.specs.Receiving.{Received}
use Rattle.hg_replay.specs.Taking.{PushEnds}

-- the repository without changesets
abbrev pub empty_repository : {A : Type 0} → Bool → Repository A
empty_repository publishing =
    empty_with (record { publishing = publishing; limits = standard_limits; first_push = 0 })

-- A reply was sent so: what went out of it, and by which uses of the writer.
abbrev pub IsSentTo : Sending → Output → Output → List ℕ → Type 0
IsSentTo sending before after reply = (count : ℕ) × Sends sending count before after reply

-- the status of a push that ended so
abbrev pub outcome_status : {A : Type 0} → Outcome (Done A) (Refusal A) → ℕ
outcome_status (done_with done) = 0
outcome_status (Aborted without_memory) = 4
outcome_status (Aborted reason) = 1

-- the status of a push whose reply was sent so
abbrev pub sent_status : {A : Type 0} → Sending → Outcome (Done A) (Refusal A) → ℕ
sent_status sent_whole how = outcome_status how
sent_status Broken how = 3
sent_status NoMemory how = 4

-- 4 for the status of a push that memory was refused in, unless its writer failed
abbrev pub starved_status : Sending → ℕ
starved_status sent_whole = 4
starved_status Broken = 3
starved_status NoMemory = 4

-- 3 where a device failed, else 4 where memory was refused, else 1 where the push was aborted, and 0 where it
-- is done
abbrev pub status_of : {A : Type 0} → BundleEnd → Outcome (Done A) (Refusal A) → Sending → ℕ
status_of ReadFailed how sending = 3
status_of (Fault stream_without_memory) how sending = starved_status sending
status_of ending how sending = sent_status sending how

-- One push was run on the empty repository: its items are the parts of the bytes taken and the mark that they
-- ask for, in a history that says for which of them memory was refused. Its reply, which has fewer than 2^32
-- bytes, was sent, and the status says how it went.
pub record Answered (A : Type 0) (publishing : Bool) (input input_after : Input)
    (output output_after : Output)
    (status : ℕ) : Type 0 where
  pub ending : BundleEnd
  pub parts : List (Part A)
  pub received : Received standard_limits input input_after ending parts
  pub how : Outcome (Done A) (Refusal A)
  pub ends : PushEnds {A = A} (empty_repository publishing) [] 0 (push_items 0 parts (mark_of ending)) how
  pub short : length (reply_of how) ≤ greatest_reply
  pub sending : Sending
  pub sent : IsSentTo sending output output_after (reply_of how)
  pub status_is : status ≡ status_of ending how sending

-- memory was refused before anything was read
pub record NotOpened (input input_after : Input) (output output_after : Output) (status : ℕ) : Type 0 where
  pub unread : input ≡ input_after
  pub unwritten : output ≡ output_after
  pub status_is : status ≡ 4
