-- How far a run has come.
use Rattle.std.proofs.Common.{ℕ, ◌≡◌, ◌<◌, ◌+◌, List, ◌∷◌, length, drop, get_or, sym, ap, ◌∙◌, Ok, Err}
use Rattle.std.proofs.lemmas.List.{drop_more}
use Rattle.std.proofs.Math.Seq.{drop-length}
use Rattle.hg_types.specs.declared.part.Part.{Part}
use Rattle.hg_parts.specs.declared.source.Source.{Source}
use Rattle.hg_parts.specs.declared.refusal.Refusal.{Refusal}
use Rattle.hg_parts.specs.Repository.{Repository}
use Rattle.hg_parts.specs.Handled.{Handled}
use Rattle.hg_parts.specs.Handle.{handle}
use Rattle.hg_repo.specs.Run.{Progress, start, progress_after, and_then, run_from, run_of, done_by}

-- The parts before place i are handled, and came that far.
abbrev pub IsReached : {A : Type 0} → Source → Repository A → List (Part A) → ℕ → Progress A → Type 0
IsReached source repo parts i progress =
    run_from source 0 (start repo) parts ≡ run_from source i progress (drop i parts)

-- the part at place i decides what follows
at_part : {A : Type 0} (source : Source) (repo : Repository A) (parts : List (Part A)) (i : ℕ) (part : Part A)
    (progress : Progress A) → IsReached source repo parts i progress → i < length parts
    → part ≡ get_or parts i part
    → run_from source 0 (start repo) parts ≡ run_from source i progress (part ∷ drop (i + 1) parts)
at_part source repo parts i part progress reached within here =
    reached ∙ ap (run_from source i progress) (drop_more parts i part within
    ∙ ap (λ p. p ∷ drop (i + 1) parts) (sym here))

-- a part that is handled
pub reached_more : {A : Type 0} (source : Source) (repo : Repository A) (parts : List (Part A)) (i : ℕ)
    (part : Part A) (progress : Progress A) (given : Handled A) → IsReached source repo parts i progress
    → i < length parts → part ≡ get_or parts i part
    → handle source progress.repo progress.replying i part ≡ Ok given
    → IsReached source repo parts (i + 1) (progress_after i progress part given)
reached_more source repo parts i part progress given reached within here handled =
    at_part source repo parts i part progress reached within here
    ∙ ap (λ result. and_then result
    (λ given. run_from source (i + 1) (progress_after i progress part given) (drop (i + 1) parts)))
    handled

-- a part that is refused
pub reached_refused : {A : Type 0} (source : Source) (repo : Repository A) (parts : List (Part A)) (i : ℕ)
    (part : Part A) (refusal : Refusal A) (progress : Progress A) → IsReached source repo parts i progress
    → i < length parts → part ≡ get_or parts i part
    → handle source progress.repo progress.replying i part ≡ Err refusal
    → run_of source repo parts ≡ Err refusal
unfolding run_of
reached_refused source repo parts i part refusal progress reached within here refused =
    ap done_by (at_part source repo parts i part progress reached within here
    ∙ ap (λ result. and_then result
    (λ given. run_from source (i + 1) (progress_after i progress part given) (drop (i + 1) parts)))
    refused)

-- all parts
pub reached_end : {A : Type 0} (source : Source) (repo : Repository A) (parts : List (Part A))
    (progress : Progress A) → IsReached source repo parts (length parts) progress
    → run_of source repo parts ≡ Ok
    (progress.repo, record { replies = progress.replies; handled = progress.handled })
unfolding run_of
reached_end source repo parts progress reached =
    ap done_by (reached ∙ ap (run_from source (length parts) progress) (drop-length parts))
