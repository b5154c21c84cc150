-- Which status there can be.
use Rattle.std.proofs.Common.{◌≡◌, ◌⊎◌, ℕ, List, [], ◌∷◌, ◌++◌, map, Bool, true, false, if◌then◌else◌, inl, inr, refl, subst, sym}
use Rattle.std.proofs.Common.{Option, Result, Ok, Err}
use Rattle.hg_parts.specs.declared.item.Taken.{Taken}
use Rattle.hg_parts.specs.Repository.{Repository}
use Rattle.hg_repo.specs.declared.done.Done.{Done}
use Rattle.hg_parts.specs.declared.refusal.Refusal.{Refusal}
use Rattle.hg_stream.specs.declared.fault.StreamFault.TheVariants.{BadMagic, NegativeSize, Params, Header, Chunk}
use Rattle.hg_stream.specs.declared.fault.StreamFault.TheVariants.{NestedInterrupt, ClientAbort, Unsupported}
use Rattle.hg_stream.specs.declared.fault.StreamFault.TheVariants.{TooLarge, Truncated, NoMemory as fault_no_memory}
use Rattle.hg_push.specs.declared.outcome.Outcome.{Outcome}
use Rattle.hg_push.specs.declared.outcome.Outcome.TheVariants.{Done as done_with, Aborted}
use Rattle.hg_push.specs.declared.outcome.Reason.TheVariants.{Refused, Cut, WrongIndex, NoMemory as reason_no_memory}
use Rattle.hg_connection.specs.Devices.{Input, Output}
use Rattle.hg_connection.specs.declared.bundle_end.BundleEnd.{BundleEnd}
use Rattle.hg_connection.specs.declared.bundle_end.BundleEnd.TheVariants.{Whole, Fault, InputEnded, ReadFailed}
use Rattle.hg_connection.specs.declared.sending.Sending.{Sending}
use Rattle.hg_connection.specs.declared.sending.Sending.TheVariants.{Whole as sent_whole, Broken, NoMemory}
use Rattle.hg_replay.specs.Answering.{Answered, NotOpened, outcome_status, sent_status, starved_status, status_of}
use Rattle.hg_replay.specs.Replaying.{Replayed, first_told, is_told, replay_status, sending_status}
use Rattle.hg_replay.specs.declared.seed.SeedFault.{SeedFault}
use Rattle.hg_replay.specs.declared.seed.SeedFault.TheVariants.{Aborted as seed_aborted, ReadFailed as seed_unread}
use Rattle.hg_replay.specs.declared.seed.SeedFault.TheVariants.{NoMemory as seed_no_memory}
use Rattle.hg_tcp.specs.declared.terms.ServeTerms.{ServeTerms}
use Rattle.hg_tcp.specs.Accepting.{DoorUse}
use Rattle.hg_tcp.specs.Closing.{EndsOn, end_status}
use Rattle.hg_commands.specs.Commands.{IsDeviceStatus, IsRunStatus}
use Rattle.hg_commands.specs.Serving.{EndsFrom, Serves, fault_status}

aborted : IsRunStatus 1
aborted = inl refl

done : IsRunStatus 0
done = inr (inl refl)

device : (status : ℕ) → IsDeviceStatus status → IsRunStatus status
device status is = inr (inr is)

failed : IsRunStatus 3
failed = device 3 (inl refl)

refused : IsRunStatus 4
refused = device 4 (inr refl)

same : (status other : ℕ) → status ≡ other → IsRunStatus other → IsRunStatus status
same status other is of = subst (λ (n : ℕ). IsRunStatus n) (sym is) of

of_starved : (sending : Sending) → IsRunStatus (starved_status sending)
of_starved sent_whole = refused
of_starved Broken = failed
of_starved NoMemory = refused

first_of : (three four one : Bool)
    → IsRunStatus (if three then 3 else if four then 4 else if one then 1 else 0)
first_of true four one = failed
first_of false true one = refused
first_of false false true = aborted
first_of false false false = done

of_all : (statuses : List ℕ) → IsRunStatus (first_told statuses)
of_all statuses = first_of (is_told 3 statuses) (is_told 4 statuses) (is_told 1 statuses)

of_end : (failed_one no_memory : Bool) (sending : Sending) → IsRunStatus (end_status failed_one no_memory sending)
of_end true true sent_whole = failed
of_end true false sent_whole = failed
of_end false true sent_whole = refused
of_end false false sent_whole = done
of_end true true Broken = failed
of_end true false Broken = failed
of_end false true Broken = failed
of_end false false Broken = failed
of_end true true NoMemory = failed
of_end true false NoMemory = failed
of_end false true NoMemory = refused
of_end false false NoMemory = refused

of_fault : (fault : SeedFault) → IsRunStatus (fault_status fault)
of_fault seed_aborted = aborted
of_fault seed_unread = failed
of_fault seed_no_memory = refused

module _ {A : Type 0} where
  of_outcome : (how : Outcome (Done A) (Refusal A)) → IsRunStatus (outcome_status how)
  of_outcome (done_with it) = done
  of_outcome (Aborted (Refused why)) = aborted
  of_outcome (Aborted (Cut why)) = aborted
  of_outcome (Aborted WrongIndex) = aborted
  of_outcome (Aborted reason_no_memory) = refused

  of_sent : (sending : Sending) (how : Outcome (Done A) (Refusal A)) → IsRunStatus (sent_status sending how)
  of_sent sent_whole how = of_outcome how
  of_sent Broken how = failed
  of_sent NoMemory how = refused

  of_push : (ending : BundleEnd) (how : Outcome (Done A) (Refusal A)) (sending : Sending)
      → IsRunStatus (status_of ending how sending)
  of_push ReadFailed how sending = failed
  of_push Whole how sending = of_sent sending how
  of_push InputEnded how sending = of_sent sending how
  of_push (Fault BadMagic) how sending = of_sent sending how
  of_push (Fault NegativeSize) how sending = of_sent sending how
  of_push (Fault (Params fault)) how sending = of_sent sending how
  of_push (Fault (Header fault)) how sending = of_sent sending how
  of_push (Fault (Chunk fault)) how sending = of_sent sending how
  of_push (Fault NestedInterrupt) how sending = of_sent sending how
  of_push (Fault ClientAbort) how sending = of_sent sending how
  of_push (Fault Unsupported) how sending = of_sent sending how
  of_push (Fault TooLarge) how sending = of_sent sending how
  of_push (Fault Truncated) how sending = of_sent sending how
  of_push (Fault fault_no_memory) how sending = of_starved sending

  -- a push that was answered, or not opened
  pub of_one : (publishing : Bool) (input left : Input) (before after : Output) (status : ℕ)
      → Answered A publishing input left before after status ⊎ NotOpened input left before after status
      → IsRunStatus status
  of_one publishing input left before after status (inl is) =
      same status _ is.status_is (of_push is.ending is.how is.sending)
  of_one publishing input left before after status (inr is) = same status 4 is.status_is refused

  pub of_replay : (publishing : Bool) (inputs lefts : List Input) (before after : Output) (status : ℕ)
      → Replayed A publishing inputs lefts before after status → IsRunStatus status
  of_replay publishing inputs lefts before after status is = same status _ is.status_is
      (of_all (map replay_status is.replays ++ sending_status is.sending ∷ []))

  of_closing : (first : Repository A) (terms : ServeTerms) (heard : List (List (Taken A)) → Type 0)
      (door shut : Option (List DoorUse)) (before after : Output) (status : ℕ)
      → EndsOn first terms heard door shut before after status → IsRunStatus status
  of_closing first terms heard door shut before after status (inl is) = same status 4 is.0 refused
  of_closing first terms heard door shut before after status (inr is) =
      same status _ is.status_is (of_end is.failed is.no_memory is.sending)

  of_service : (first : Result (Repository A) SeedFault) (terms : ServeTerms)
      (heard : List (List (Taken A)) → Type 0) (door shut : Option (List DoorUse)) (before after : Output)
      (status : ℕ) → EndsFrom first terms heard door shut before after status → IsRunStatus status
  of_service (Ok first) terms heard door shut before after status ends =
      of_closing first ends.0 heard door shut before after status ends.2
  of_service (Err fault) terms heard door shut before after status ends = same status _ ends.2 (of_fault fault)

  pub of_serve : (publishing : Bool) (seed : Option Input) (terms : ServeTerms)
      (heard : List (List (Taken A)) → Type 0) (door shut : Option (List DoorUse)) (before after : Output)
      (status : ℕ) → Serves A publishing seed terms heard door shut before after status → IsRunStatus status
  of_serve publishing seed terms heard door shut before after status is =
      of_service is.first terms heard door shut before after status is.ends
