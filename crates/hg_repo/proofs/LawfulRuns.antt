-- A run on a lawful repository leaves a lawful one.
use Rattle.std.proofs.Common.{ℕ, ◌+◌, Bool, List, [], ◌∷◌, Result, Ok, Err, IfOk}
use Rattle.hg_types.specs.Bytes.{IsBytes}
use Rattle.hg_types.specs.declared.part.Part.{Part}
use Rattle.hg_parts.specs.declared.source.Source.{Source}
use Rattle.hg_parts.specs.declared.refusal.Refusal.{Refusal}
use Rattle.hg_parts.specs.Repository.{Repository, IsLawful}
use Rattle.hg_parts.specs.Handled.{Handled, Outcome}
use Rattle.hg_parts.specs.Handle.{handle}
use Rattle.hg_repo.specs.Run.{Progress, start, progress_after, and_then, run_from, run_of, done_by, HaveBytes}

-- the law of one part
abbrev pub PartsStay : Type 0 → Type 0
PartsStay A = (source : Source) (repo : Repository A) (replying : Bool) (place : ℕ) (part : Part A)
    → IsLawful repo → IsBytes part.payload
    → IfOk (handle source repo replying place part) (λ given. IsLawful given.repo)

module _ {A : Type 0} (stay : PartsStay A) (source : Source) where
  abbrev ComesLawful : Result (Progress A) (Refusal A) → Type 0
  ComesLawful run = IfOk run (λ progress. IsLawful progress.repo)

  after_part : (result : Outcome A) (next : Handled A → Result (Progress A) (Refusal A))
      → IfOk result (λ given. IsLawful given.repo)
      → ((given : Handled A) → IsLawful given.repo → ComesLawful (next given))
      → ComesLawful (and_then result next)
  after_part (Ok given) next lawful rest = rest given lawful
  after_part (Err refusal) next lawful rest = tt

  comes_lawful : (place : ℕ) (progress : Progress A) (parts : List (Part A)) → IsLawful progress.repo
      → HaveBytes parts
      → ComesLawful (run_from source place progress parts)
  comes_lawful place progress [] lawful bytes = lawful
  comes_lawful place progress (part ∷ parts) lawful bytes =
      after_part (handle source progress.repo progress.replying place part)
      (λ given. run_from source (place + 1) (progress_after place progress part given) parts)
      (stay source progress.repo progress.replying place part lawful bytes.0)
      (λ given still. comes_lawful (place + 1) (progress_after place progress part given) parts still bytes.1)

  done_lawful : (run : Result (Progress A) (Refusal A)) → ComesLawful run
      → IfOk (done_by run) (λ done. IsLawful done.0)
  done_lawful (Ok progress) lawful = lawful
  done_lawful (Err refusal) lawful = tt

  pub run_lawful : (repo : Repository A) (parts : List (Part A)) → IsLawful repo → HaveBytes parts
      → IfOk (run_of source repo parts) (λ done. IsLawful done.0)
  unfolding run_of
  run_lawful repo parts lawful bytes =
      done_lawful (run_from source 0 (start repo) parts)
      (comes_lawful 0 (start repo) parts lawful bytes)
