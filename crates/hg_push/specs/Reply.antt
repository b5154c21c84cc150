-- The reply to a push: the parts that say how it ended (`internals.bundle2`, "error:abort",
-- "error:pushraced", "error:pushkey" and "error:unsupportedcontent").
use Rattle.std.specs.Prelude.{ℕ, ◌<◌, ◌^◌, List, [], ◌∷◌, ◌++◌, All, length, take, codes, decimal, true}
use Rattle.std.specs.List.{join_with_byte}
use Rattle.hg_types.specs.declared.part.Part.{Part}
use Rattle.hg_types.specs.declared.part.Param.{Param}
use Rattle.hg_parts.specs.declared.item.CutReason.{CutReason}
use Rattle.hg_parts.specs.declared.item.CutReason.TheVariants.{Stream, ReadFailed, GaveUp}
use Rattle.hg_keys.specs.declared.keys.KeyCall.{KeyCall}
use Rattle.hg_stream.specs.Written.{bundle_bytes, CanBeWritten}
use Rattle.hg_repo.specs.declared.done.Done.{Done}
use Rattle.hg_parts.specs.declared.refusal.Refusal.{Refusal}
use Rattle.hg_parts.specs.declared.refusal.Refusal.TheVariants.{Unsupported, Raced, KeyFailed, BadPart}
use Rattle.hg_parts.specs.declared.refusal.Refusal.TheVariants.{BadChangeset, UnknownNode, ClientAbort}
use Rattle.hg_parts.specs.declared.refusal.Refusal.TheVariants.{NoMemory}
use Rattle.hg_parts.specs.Refusal.{message_of}
use Rattle.hg_push.specs.declared.outcome.Reason.{Reason}
use Rattle.hg_push.specs.declared.outcome.Reason.TheVariants.{Refused, Cut, WrongIndex}
use Rattle.hg_push.specs.declared.outcome.Reason.TheVariants.{NoMemory as without_memory}
use Rattle.hg_push.specs.declared.outcome.Outcome.{Outcome}
use Rattle.hg_push.specs.declared.outcome.Outcome.TheVariants.{Done as done_with, Aborted}
use Rattle.hg_push.specs.declared.row.State.{State}
use Rattle.hg_push.specs.declared.row.State.TheVariants.{Open, Closed}

-- A parameter of an error part is mandatory, and its value is cut after 255 bytes: a header holds no longer
-- one.
abbrev pub telling : {A : Type 0} → List ℕ → List ℕ → Param A
telling key value = record { mandatory = true; key = key; value = take 255 value }

-- An error part is mandatory, as its upper case type says, and has no payload.
abbrev pub error_part : {A : Type 0} → List ℕ → List (Param A) → Part A
error_part kind params = record { kind = kind; id = 0; params = params; payload = [] }

-- the part that says why a push was aborted
abbrev pub abort_part : {A : Type 0} → List ℕ → Part A
abort_part message = error_part (codes "ERROR:ABORT") (telling (codes "message") message ∷ [])

-- the part that says which check found a change
abbrev pub race_part : {A : Type 0} → List ℕ → Part A
race_part message = error_part (codes "ERROR:PUSHRACED") (telling (codes "message") message ∷ [])

-- the names of the unknown mandatory parameters, joined by NUL, where there are any
abbrev pub unknown_params : {A : Type 0} → List (List ℕ) → List (Param A)
unknown_params [] = []
unknown_params (name ∷ names) = telling (codes "params") (join_with_byte 0 (name ∷ names)) ∷ []

-- the part that says what was not supported
abbrev pub unsupported_part : {A : Type 0} → List ℕ → List (List ℕ) → Part A
unsupported_part kind names =
    error_part (codes "ERROR:UNSUPPORTEDCONTENT") (telling (codes "parttype") kind ∷ unknown_params names)

-- the key that was not set: the part's id, and what it asked
abbrev pub key_part : {A : Type 0} → ℕ → KeyCall A → Part A
key_part id call =
    error_part (codes "ERROR:PUSHKEY") (telling (codes "in-reply-to") (decimal id)
    ∷ telling (codes "namespace") call.namespace ∷ telling (codes "key") call.key
    ∷ telling (codes "new") call.new ∷ telling (codes "old") call.old ∷ [])

-- why the run was refused
abbrev pub refusal_part : {A : Type 0} → Refusal A → Part A
refusal_part (Unsupported place kind params) = unsupported_part kind params
refusal_part (Raced place text) = race_part (message_of text)
refusal_part (KeyFailed place id call) = key_part id call
refusal_part (BadPart place) = abort_part (codes "part " ++ decimal place ++ codes " is malformed")
refusal_part (BadChangeset place fault) =
    abort_part (codes "part " ++ decimal place ++ codes " holds a bad changeset")
refusal_part (UnknownNode place) =
    abort_part (codes "part " ++ decimal place ++ codes " names an unknown node")
refusal_part (ClientAbort place) = abort_part (codes "client aborted")
refusal_part NoMemory = abort_part (codes "out of memory")

-- why the push was cut off
abbrev pub cut_part : {A : Type 0} → CutReason → Part A
cut_part (Stream fault) = abort_part (codes "stream fault " ++ decimal fault)
cut_part ReadFailed = abort_part (codes "connection lost")
cut_part GaveUp = abort_part (codes "push dropped")

-- why the push was aborted
abbrev pub reason_part : {A : Type 0} → Reason (Refusal A) → Part A
reason_part (Refused refusal) = refusal_part refusal
reason_part (Cut reason) = cut_part reason
reason_part WrongIndex = abort_part (codes "bad end mark")
reason_part without_memory = abort_part (codes "out of memory")

-- The parts of the reply: those that the run left, or the one part that says why the push was aborted.
abbrev pub reply_parts : {A : Type 0} → Outcome (Done A) (Refusal A) → List (Part A)
reply_parts (done_with done) = done.replies
reply_parts (Aborted reason) = reason_part reason ∷ []

-- The bytes of the reply: the bundle of its parts.
abbrev pub reply_of : {A : Type 0} → Outcome (Done A) (Refusal A) → List ℕ
reply_of outcome = bundle_bytes (reply_parts outcome)

-- A bundle can carry the parts of these replies, whose number is a u32.
pub record CanBeSent {A : Type 0} (replies : List (Part A)) : Type 0 where
  pub parts : All CanBeWritten replies
  pub count : length replies < 2 ^ 32

-- The reply can be written: of a done push, as its run's replies can; of an aborted one always.
abbrev pub CanBeTold : {A : Type 0} → Outcome (Done A) (Refusal A) → Type 0
CanBeTold (done_with done) = CanBeSent done.replies
CanBeTold (Aborted reason) = Unit {0}

-- what is kept of a push can be reported once it is closed
abbrev pub KeepsTellable : {A : Type 0} → State (Done A) (Refusal A) A → Type 0
KeepsTellable (Open staged) = Unit {0}
KeepsTellable (Closed outcome) = CanBeTold outcome
