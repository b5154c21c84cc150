-- A run of parts that were prepared, and how far it has come.
use Rattle.std.proofs.Common.{ℕ, ◌≡◌, ◌+◌, ◌⊎◌, Bool, ◌||◌, List, [], ◌∷◌, ◌++◌, inl, inr, refl, sym, ap, ◌∙◌}
use Rattle.std.proofs.Common.{Ok, Err}
use Rattle.hg_types.specs.declared.part.Part.{Part}
use Rattle.hg_parts.specs.declared.prepared.Prepared.{Prepared}
use Rattle.hg_parts.specs.declared.source.Source.{Source}
use Rattle.hg_parts.specs.declared.refusal.Refusal.{Refusal}
use Rattle.hg_parts.specs.declared.refusal.Refusal.TheVariants.{NoMemory}
use Rattle.hg_parts.specs.Repository.{Repository}
use Rattle.hg_parts.specs.Handled.{Handled}
use Rattle.hg_parts.specs.Handle.{handle}
use Rattle.hg_parts.specs.PartTypes.{is_reply_caps, support_of}
use Rattle.hg_parts.specs.Prepared.{IsMadeOf, AreMadeOf}
use Rattle.hg_repo.specs.Run.{Progress, start, with_reply, progress_after, and_then, run_from, run_of}
use Rattle.hg_repo.specs.Run.{done_by}

-- `progress_after` of a part that starts replies, or does not
abbrev pub progress_past : {A : Type 0} → ℕ → Progress A → Bool → Handled A → Progress A
progress_past place progress starts given = record {
  repo = given.repo;
  replying = progress.replying || starts;
  replies = with_reply progress.replies given.reply;
  handled = progress.handled ++ place ∷ [];
}

module _ {A : Type 0} (source : Source) (repo : Repository A) where
  -- Of these parts, those that are left give from here what all of them give.
  pub record IsLeft (parts : List (Part A)) (left : List (Prepared A)) (place : ℕ)
      (progress : Progress A) : Type 0 where
    pub rest : List (Part A)
    pub made : AreMadeOf rest left
    pub same : run_from source 0 (start repo) parts ≡ run_from source place progress rest

  -- The same of each list of parts that the prepared ones may have been made of.
  abbrev pub IsReachedBy : List (Prepared A) → List (Prepared A) → ℕ → Progress A → Type 0
  IsReachedBy all left place progress = (parts : List (Part A)) → AreMadeOf parts all
      → IsLeft parts left place progress

  pub reached_none : (all : List (Prepared A)) → IsReachedBy all all 0 (start repo)
  reached_none all = λ parts made. record { rest = parts; made = made; same = refl }

  -- a part that is handled
  pub next_handled : (all left : List (Prepared A)) (one : Prepared A) (place : ℕ) (progress : Progress A)
      (given : Handled A) (starts : Bool)
      → IsReachedBy all (one ∷ left) place progress
      → ((part : Part A) → IsMadeOf part one
      → handle source progress.repo progress.replying place part ≡ Ok given)
      → ((part : Part A) → IsMadeOf part one → starts ≡ is_reply_caps (support_of part))
      → IsReachedBy all left (place + 1) (progress_past place progress starts given)
  next_handled all left one place progress given starts reached handled replies =
      λ parts made. handled_in parts (reached parts made)
    where
      handled_as : (parts rest : List (Part A)) → AreMadeOf rest (one ∷ left)
          → run_from source 0 (start repo) parts ≡ run_from source place progress rest
          → IsLeft parts left (place + 1) (progress_past place progress starts given)
      handled_as parts [] made same = absurd made
      handled_as parts (part ∷ rest) made same = record {
        rest = rest;
        made = made.1;
        same = same ∙ (ap (λ result. and_then result
            (λ given. run_from source (place + 1) (progress_after place progress part given) rest))
            (handled part made.0)
            ∙ ap (λ (b : Bool). run_from source (place + 1) (progress_past place progress b given) rest)
            (sym (replies part made.0)));
      }

      handled_in : (parts : List (Part A)) → IsLeft parts (one ∷ left) place progress
          → IsLeft parts left (place + 1) (progress_past place progress starts given)
      handled_in parts was = handled_as parts was.rest was.made was.same

  -- a part that is refused
  pub next_refused : (all left : List (Prepared A)) (one : Prepared A) (place : ℕ) (progress : Progress A)
      (refusal : Refusal A)
      → IsReachedBy all (one ∷ left) place progress
      → ((part : Part A) → IsMadeOf part one → (refusal ≡ NoMemory)
      ⊎ (handle source progress.repo progress.replying place part ≡ Err refusal))
      → (parts : List (Part A)) → AreMadeOf parts all → (refusal ≡ NoMemory)
      ⊎ (run_of source repo parts ≡ Err refusal)
  unfolding run_of
  next_refused all left one place progress refusal reached refused parts made =
      refused_in (reached parts made)
    where
      refused_as : (rest : List (Part A)) → AreMadeOf rest (one ∷ left)
          → run_from source 0 (start repo) parts ≡ run_from source place progress rest
          → (refusal ≡ NoMemory) ⊎ (done_by (run_from source 0 (start repo) parts) ≡ Err refusal)
      refused_as [] made same = absurd made
      refused_as (part ∷ rest) made same = elim (refused part made.0) [
        | inl none ↦ inl none
        | inr err ↦ inr (ap done_by (same ∙ ap (λ result. and_then result
            (λ given. run_from source (place + 1) (progress_after place progress part given) rest)) err))
      ]

      refused_in : IsLeft parts (one ∷ left) place progress → (refusal ≡ NoMemory)
          ⊎ (done_by (run_from source 0 (start repo) parts) ≡ Err refusal)
      refused_in was = refused_as was.rest was.made was.same

  -- all parts
  pub all_handled : (all : List (Prepared A)) (place : ℕ) (progress : Progress A)
      → IsReachedBy all [] place progress → (parts : List (Part A)) → AreMadeOf parts all
      → run_of source repo parts ≡ Ok
      (progress.repo, record { replies = progress.replies; handled = progress.handled })
  unfolding run_of
  all_handled all place progress reached parts made = handled_in (reached parts made)
    where
      handled_as : (rest : List (Part A)) → AreMadeOf rest []
          → run_from source 0 (start repo) parts ≡ run_from source place progress rest
          → done_by (run_from source 0 (start repo) parts) ≡ Ok
          (progress.repo, record { replies = progress.replies; handled = progress.handled })
      handled_as [] made same = ap done_by same
      handled_as (part ∷ rest) made same = absurd made

      handled_in : IsLeft parts [] place progress
          → done_by (run_from source 0 (start repo) parts) ≡ Ok
          (progress.repo, record { replies = progress.replies; handled = progress.handled })
      handled_in was = handled_as was.rest was.made was.same
