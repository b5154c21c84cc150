-- A run that is done has handled each of its parts once, in order.
use Rattle.std.proofs.Common.{ℕ, suc, ◌≡◌, ◌+◌, List, [], ◌∷◌, ◌++◌, length, ap, sym, refl, ◌∙◌, Result, Ok, Err}
use Rattle.std.proofs.Common.{append_assoc}
use Rattle.std.proofs.lemmas.List.{append-nil}
use Rattle.std.specs.List.{range_with_len}
use Rattle.hg_types.specs.declared.part.Part.{Part}
use Rattle.hg_repo.specs.declared.done.Done.{Done}
use Rattle.hg_parts.specs.declared.source.Source.{Source}
use Rattle.hg_parts.specs.declared.refusal.Refusal.{Refusal}
use Rattle.hg_parts.specs.Repository.{Repository}
use Rattle.hg_parts.specs.Handled.{Handled, Outcome}
use Rattle.hg_parts.specs.Handle.{handle}
use Rattle.hg_repo.specs.Run.{Progress, start, progress_after, and_then, run_from, run_of, done_by}

module _ {A : Type 0} (source : Source) where
  -- to the places so far a run of so many parts adds theirs, from this one on
  abbrev AddsPlaces : ℕ → List ℕ → ℕ → Result (Progress A) (Refusal A) → Type 0
  AddsPlaces place handled count run =
      (last : Progress A) → run ≡ Ok last → last.handled ≡ handled ++ range_with_len place count

  handled_in : List ℕ → Result (Progress A) (Refusal A) → List ℕ
  handled_in handled (Ok progress) = progress.handled
  handled_in handled (Err refusal) = handled

  at_part : (place count : ℕ) (handled : List ℕ) (result : Outcome A)
      (next : Handled A → Result (Progress A) (Refusal A))
      → ((given : Handled A) → AddsPlaces (place + 1) (handled ++ place ∷ []) count (next given))
      → AddsPlaces place handled (suc count) (and_then result next)
  at_part place count handled (Ok given) next rest last is =
      rest given last is ∙ append_assoc handled (place ∷ []) (range_with_len (place + 1) count)
  at_part place count handled (Err refusal) next rest last is = cc

  adds_places : (place : ℕ) (progress : Progress A) (parts : List (Part A))
      → AddsPlaces place progress.handled (length parts) (run_from source place progress parts)
  unfolding handled_in
  adds_places place progress [] last is =
      sym (ap (handled_in progress.handled) is) ∙ sym (append-nil progress.handled)
  adds_places place progress (part ∷ parts) last is =
      at_part place (length parts) progress.handled (handle source progress.repo progress.replying place part)
      (λ given. run_from source (place + 1) (progress_after place progress part given) parts)
      (λ given. adds_places (place + 1) (progress_after place progress part given) parts) last is

  handled_of : Result (Repository A × Done A) (Refusal A) → List ℕ
  handled_of (Ok done) = done.1.handled
  handled_of (Err refusal) = []

  done_places : (count : ℕ) (run : Result (Progress A) (Refusal A)) (new : Repository A) (done : Done A)
      → AddsPlaces 0 [] count run → done_by run ≡ Ok (new, done) → done.handled ≡ range_with_len 0 count
  unfolding handled_of
  done_places count (Ok progress) new done adds is = sym (ap handled_of is) ∙ adds progress refl
  done_places count (Err refusal) new done adds is = cc

  pub done_handled : (repo : Repository A) (parts : List (Part A)) (new : Repository A) (done : Done A)
      → run_of source repo parts ≡ Ok (new, done) → done.handled ≡ range_with_len 0 (length parts)
  unfolding run_of
  done_handled repo parts new done is =
      done_places (length parts) (run_from source 0 (start repo) parts) new done
      (adds_places 0 (start repo) parts) is
