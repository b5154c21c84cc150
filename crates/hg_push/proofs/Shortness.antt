-- How long the reply to a push is.
use Rattle.std.proofs.Common.{ℕ, ◌≡◌, ◌<◌, ◌≤◌, ◌^◌, List, [], ◌∷◌, length, refl, arith, All, Ok}
use Rattle.std.proofs.Common.{Some}
use Rattle.std.proofs.lemmas.List.Elements.{All-cons}
use Rattle.hg_types.specs.declared.part.Part.{Part}
use Rattle.hg_parts.specs.declared.item.CutReason.{CutReason}
use Rattle.hg_parts.specs.declared.item.CutReason.TheVariants.{Stream, ReadFailed, GaveUp}
use Rattle.hg_stream.specs.Lengths.{AreShortIfBare}
use Rattle.hg_parts.specs.declared.refusal.Refusal.{Refusal}
use Rattle.hg_parts.specs.declared.refusal.Refusal.TheVariants.{Unsupported, Raced, KeyFailed, BadPart}
use Rattle.hg_parts.specs.declared.refusal.Refusal.TheVariants.{BadChangeset, UnknownNode, ClientAbort}
use Rattle.hg_parts.specs.declared.refusal.Refusal.TheVariants.{NoMemory}
use Rattle.hg_parts.specs.declared.source.Source.{Source}
use Rattle.hg_parts.specs.declared.source.Source.TheVariants.{Push}
use Rattle.hg_repo.specs.declared.done.Done.{Done}
use Rattle.hg_repo.specs.Run.{run_of}
use Rattle.hg_push.specs.declared.outcome.Outcome.TheVariants.{Done as done_with, Aborted}
use Rattle.hg_push.specs.declared.outcome.Reason.{Reason}
use Rattle.hg_push.specs.declared.outcome.Reason.TheVariants.{Refused, Cut, WrongIndex}
use Rattle.hg_push.specs.declared.outcome.Reason.TheVariants.{NoMemory as without_memory}
use Rattle.hg_push.specs.History.{History, outcome, parts}
use Rattle.hg_push.specs.Lengths.{most_parts, greatest_reply}
use Rattle.hg_push.specs.Reply.{CanBeTold, reason_part, refusal_part, cut_part, reply_of}
use Rattle.hg_push.specs.Run.{RepositoryOf, run_push}
use Rattle.hg_push.proofs.Completing.{done_in}
use Rattle.hg_push.proofs.Sending.{reason_sent}

-- the law `bundles_of_bare_parts_are_short`
abbrev pub ShortBundles : Type 0 → Type 0
ShortBundles A = (parts : List (Part A)) → AreShortIfBare parts

-- the two sides of the law `done_runs_leave_few_replies`
abbrev pub FewReplies : Type 0 → Type 0
FewReplies A = (source : Source) (repo : RepositoryOf A) (parts : List (Part A)) (new : RepositoryOf A)
    (done : Done A) → run_of source repo parts ≡ Ok (new, done) → length done.replies ≤ length parts

abbrev pub BareReplies : Type 0 → Type 0
BareReplies A = (source : Source) (repo : RepositoryOf A) (parts : List (Part A)) (new : RepositoryOf A)
    (done : Done A) → run_of source repo parts ≡ Ok (new, done)
    → All (λ reply. reply.payload ≡ []) done.replies

pub done_short : {A : Type 0} → ShortBundles A → FewReplies A → BareReplies A
    → (first : RepositoryOf A) (p : ℕ) (h : History A) (done : Done A)
    → outcome run_push first p h ≡ Some (done_with done) → CanBeTold (done_with done)
    → length (parts p h) ≤ most_parts
    → length (reply_of (done_with done)) ≤ greatest_reply
done_short short few bare first p h done is told at_most =
    let ran = done_in run_push first p h done is in
    let count = few Push ran.before (parts p h) ran.after done ran.answered in
    let plain = bare Push ran.before (parts p h) ran.after done ran.answered in
    let size = short done.replies told.parts plain told.count in
    omega (arith, count, size, at_most)

refusal_bare : {A : Type 0} (refusal : Refusal A) → (refusal_part refusal).payload ≡ []
refusal_bare (Unsupported place kind params) = refl
refusal_bare (Raced place text) = refl
refusal_bare (KeyFailed place id call) = refl
refusal_bare (BadPart place) = refl
refusal_bare (BadChangeset place fault) = refl
refusal_bare (UnknownNode place) = refl
refusal_bare (ClientAbort place) = refl
refusal_bare NoMemory = refl

cut_bare : (A : Type 0) (reason : CutReason) → (cut_part {A = A} reason).payload ≡ []
cut_bare A (Stream fault) = refl
cut_bare A ReadFailed = refl
cut_bare A GaveUp = refl

reason_bare : {A : Type 0} (reason : Reason (Refusal A)) → (reason_part reason).payload ≡ []
reason_bare {A} (Refused refusal) = refusal_bare refusal
reason_bare {A} (Cut reason) = cut_bare A reason
reason_bare {A} WrongIndex = refl
reason_bare {A} without_memory = refl

-- the one part of the reply to an aborted push
pub aborted_short : {A : Type 0} → ShortBundles A → (reason : Reason (Refusal A))
    → length (reply_of (Aborted reason)) ≤ greatest_reply
aborted_short {A} short reason =
    let P : Part A → Type 0 = λ part. part.payload ≡ [] in
    let none : All P [] = λ k d low. absurd (omega (arith, low)) in
    let bare = All-cons P (reason_part reason) [] (reason_bare reason) none in
    let one : length (reason_part reason ∷ []) < 2 ^ 32 = omega arith in
    let size = short (reason_part reason ∷ []) (reason_sent reason) bare one in
    omega (arith, size)
