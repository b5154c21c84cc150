-- Running the parts of a push.
use Rattle.std.specs.Prelude.{ℕ, ◌≡◌, Bool, false, ◌||◌, ◌+◌, ◌⊎◌, List, [], ◌∷◌, ◌++◌, length, Option, Some}
use Rattle.std.specs.Prelude.{None, Result, Ok, Err, MatchResult, slice_get}
use Rattle.std.specs.List.{AllByRecursion}
use Rattle.hg_types.specs.Bytes.{IsBytes}
use Rattle.hg_types.specs.declared.part.Part.{Part}
use Rattle.hg_repo.specs.declared.done.Done.{Done}
use Rattle.hg_parts.specs.declared.refusal.Refusal.{Refusal}
use Rattle.hg_parts.specs.declared.refusal.Refusal.TheVariants.{NoMemory}
use Rattle.hg_parts.specs.declared.source.Source.{Source}
use Rattle.hg_parts.specs.Repository.{Repository}
use Rattle.hg_parts.specs.Handled.{Handled}
use Rattle.hg_parts.specs.PartTypes.{support_of, is_reply_caps}
use Rattle.hg_parts.specs.Handle.{handle}
use Rattle.hg_parts.specs.Refusing.{CanBeRefused}

-- How far a run has come: the repository so far, whether parts leave replies, the replies so far, and the
-- places of the parts that were handled so far.
pub record Progress (A : Type 0) : Type 0 where
  pub repo : Repository A
  pub replying : Bool
  pub replies : List (Part A)
  pub handled : List ℕ

-- no part was run yet
abbrev pub start : {A : Type 0} → Repository A → Progress A
start repo = record { repo = repo; replying = false; replies = []; handled = [] }

-- a reply has its place among the replies as its id
abbrev pub with_reply : {A : Type 0} → List (Part A) → Option (Part A) → List (Part A)
with_reply replies None = replies
with_reply replies (Some reply) = replies ++ record reply { id = length replies } ∷ []

-- The part at this place was handled, which is noted. Parts leave replies after the first `replycaps` that is
-- supported.
abbrev pub progress_after : {A : Type 0} → ℕ → Progress A → Part A → Handled A → Progress A
progress_after place progress part given = record {
  repo = given.repo;
  replying = progress.replying || is_reply_caps (support_of part);
  replies = with_reply progress.replies given.reply;
  handled = progress.handled ++ place ∷ [];
}

-- what comes next, unless there is a refusal
abbrev pub and_then : {T U E : Type 0} → Result T E → (T → Result U E) → Result U E
and_then (Ok x) next = next x
and_then (Err refusal) next = Err refusal

-- the parts from this place on, in order: the first that is refused decides
abbrev pub run_from : {A : Type 0} → Source → ℕ → Progress A → List (Part A) → Result (Progress A) (Refusal A)
run_from source place progress [] = Ok progress
run_from source place progress (part ∷ parts) =
    and_then (handle source progress.repo progress.replying place part)
    (λ given. run_from source (place + 1) (progress_after place progress part given) parts)

-- the end of a run: done, with the repository, the replies and the places of the handled parts, or refused
abbrev pub done_by : {A : Type 0} → Result (Progress A) (Refusal A) →
    Result (Repository A × Done A) (Refusal A)
done_by (Ok progress) =
    Ok (progress.repo, record { replies = progress.replies; handled = progress.handled })
done_by (Err refusal) = Err refusal

-- The run of the parts on the repository: the repository after them, the replies and the places of the handled
-- parts, or the first refusal.
unfoldable pub run_of : {A : Type 0} → Source → Repository A → List (Part A) →
    Result (Repository A × Done A) (Refusal A)
run_of source repo parts = done_by (run_from source 0 (start repo) parts)

-- the payload of each part is bytes, as it is of each part that code has
abbrev pub HaveBytes : {A : Type 0} → List (Part A) → Type 0
HaveBytes parts = AllByRecursion (λ part. IsBytes part.payload) parts

-- the refusal is that of one of the parts, at its place, and a part of its support can be refused so
abbrev pub IsRefusedIn : {A : Type 0} → List (Part A) → Refusal A → Type 0
IsRefusedIn {A} parts refusal = (place : ℕ) × (part : Part A) × (slice_get parts place ≡ Some part)
    × CanBeRefused place (support_of part) refusal

-- What a run of code may answer and leave: what the definition says, or that memory was refused, and then
-- nothing changed.
abbrev pub RunGives : {A R P D : Type 0} → (R → P → Result (R × D) (Refusal A)) → R → P →
    Result D (Refusal A) → R → Type 0
RunGives run old parts result new =
    MatchResult result (λ done. run old parts ≡ Ok (new, done)) (λ refusal. (new ≡ old)
    × ((refusal ≡ NoMemory) ⊎ (run old parts ≡ Err refusal)))
