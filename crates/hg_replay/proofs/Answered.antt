-- One bundle, from the opening of its push to the status.
use Rattle.std.proofs.Common.{ℕ, Bool, true, ◌≡◌, ◌≤◌, ◌<◌, ◌^◌, List, [], ◌∙◌, ap, subst, arith, length}
use Rattle.hg_types.specs.declared.part.Part.{Part}
use Rattle.hg_types.specs.Limits.{IsAllowed, standard_limits}
use Rattle.hg_repo.specs.declared.done.Done.{Done}
use Rattle.hg_parts.specs.declared.refusal.Refusal.{Refusal}
use Rattle.hg_push.specs.declared.outcome.Outcome.{Outcome}
use Rattle.hg_push.specs.Book.{HoldsHistory, Opens, is_opened}
use Rattle.hg_push.specs.History.{History}
use Rattle.hg_push.specs.Lengths.{greatest_reply}
use Rattle.hg_push.specs.Reply.{reply_of}
use Rattle.hg_push.specs.Run.{BookOf, RepositoryOf, run_push}
use Rattle.hg_connection.specs.declared.bundle_end.BundleEnd.{BundleEnd}
use Rattle.hg_connection.specs.declared.sending.Sending.{Sending}
use Rattle.hg_connection.specs.Devices.{Input, Output}
use Rattle.hg_connection.specs.Receiving.{mark_of, push_items, state_at}
use Rattle.hg_replay.specs.Receiving.{Received}
use Rattle.hg_replay.specs.Taking.{PushEnds, HasTaken, IsIdle, PushLeaves, PushTakes}
use Rattle.hg_replay.specs.Answering.{Answered, IsSentTo, empty_repository, status_of}
use Rattle.hg_connection.proofs.ReceivingLemmas.{PartsAreFew}
use Rattle.hg_replay.proofs.Items.{begins}

pub allowed : IsAllowed standard_limits
allowed = record {
  params = (omega arith, omega arith);
  payload = (omega arith, omega arith);
  stream = (omega arith, omega arith);
  parts = (omega arith, omega arith);
  text = (omega arith, omega arith);
  rows = (omega arith, omega arith);
  revisions = (omega arith, omega arith);
}

pub few_received : {A : Type 0} → PartsAreFew A
    → (before after : Input) (ending : BundleEnd) (parts : List (Part A))
    → Received standard_limits before after ending parts → length parts < 2 ^ 32
few_received law before after ending parts r =
    omega (arith, law standard_limits (state_at ending) r.1.consumed parts r.1.received.tells)

-- an opened push was received, run and ended
pub takes : {A : Type 0} (input left : Input) (old mid new : BookOf A) (push : ℕ) (ending : BundleEnd)
    (parts : List (Part A)) (how : Outcome (Done A) (Refusal A))
    → Received standard_limits input left ending parts
    → Opens old push mid → is_opened mid push ≡ true
    → ((first : RepositoryOf A) (h : History A) → HoldsHistory run_push first h old → HoldsHistory run_push first h mid)
    → new.next ≡ mid.next
    → ((first : RepositoryOf A) (before : History A) → HasTaken first before push mid []
    → PushLeaves first before push (push_items push parts (mark_of ending)) how new)
    → PushTakes input left old new ending how
takes {A} input left old mid new push ending parts how received opens opened holds next leaves = record {
  parts = parts;
  received = received;
  next = next ∙ ap (λ (b : BookOf A). b.next) opens.1;
  leaves = λ first before idle.
      subst (λ (p : ℕ). PushLeaves first before p (push_items p parts (mark_of ending)) how new) opens.0
      (leaves first before (begins first before push old mid idle opens opened holds));
}

-- a book over the empty repository is idle, and its first push has the number 0
pub begins_empty : {A : Type 0} (publishing : Bool) (repo : RepositoryOf A) (b : BookOf A)
    → repo ≡ empty_repository publishing → (b.first_push ≡ repo.settings.first_push)
    × (b.next ≡ repo.settings.first_push) → b.rows ≡ []
    → HoldsHistory run_push repo [] b → (b.next ≡ 0) × IsIdle {A = A} (empty_repository publishing) [] b
begins_empty {A} publishing repo b is numbers rows holds = (
  numbers.1 ∙ ap (λ (r : RepositoryOf A). r.settings.first_push) is,
  record { holds = subst (λ (r : RepositoryOf A). HoldsHistory run_push r [] b) is holds; rows = rows },
)

pub answers : {A : Type 0} (publishing : Bool) (input input_after : Input) (output output_after : Output)
    (status : ℕ) (old new : BookOf A) (ending : BundleEnd) (how : Outcome (Done A) (Refusal A))
    (sending : Sending) → old.next ≡ 0
    → IsIdle {A = A} (empty_repository publishing) [] old → PushTakes input input_after old new ending how
    → length (reply_of how) ≤ greatest_reply → IsSentTo sending output output_after (reply_of how)
    → status ≡ status_of ending how sending
    → Answered A publishing input input_after output output_after status
answers {A} publishing input input_after output output_after status old new ending how sending none idle t
    short sent is = record {
      ending = ending;
      parts = t.parts;
      received = t.received;
      how = how;
      ends = subst (λ (p : ℕ). PushEnds {A = A} (empty_repository publishing) [] p
          (push_items p t.parts (mark_of ending)) how) none (t.leaves (empty_repository publishing) [] idle).ends;
      short = short;
      sending = sending;
      sent = sent;
      status_is = is;
    }
