-- A run of parts, and a history, add changesets and markers at their ends.
use Rattle.std.proofs.Common.{◌≡◌, ◌+◌, ℕ, Bool, true, false, cond, List, [], ◌∷◌, ◌++◌, length, Option, Some, None}
use Rattle.std.proofs.Common.{Result, Ok, Err, refl}
use Rattle.std.specs.Prelude.{◌==◌}
use Rattle.hg_parts.specs.declared.item.Taken.{Taken}
use Rattle.hg_parts.specs.declared.item.What.{What}
use Rattle.hg_parts.specs.declared.item.What.TheVariants.{Part as a_part, End, Cut}
use Rattle.hg_types.specs.declared.part.Part.{Part}
use Rattle.hg_parts.specs.declared.source.Source.{Source}
use Rattle.hg_parts.specs.declared.refusal.Refusal.{Refusal}
use Rattle.hg_parts.specs.Repository.{Repository}
use Rattle.hg_parts.specs.Handled.{Handled, Outcome}
use Rattle.hg_parts.specs.Handle.{handle}
use Rattle.hg_repo.specs.declared.done.Done.{Done}
use Rattle.hg_repo.specs.Run.{Progress, start, progress_after, and_then, run_from, run_of, done_by}
use Rattle.hg_push.specs.declared.outcome.Reason.{Reason}
use Rattle.hg_push.specs.declared.outcome.Reason.TheVariants.{NoMemory, WrongIndex}
use Rattle.hg_push.specs.History.{after, decided, decided_by, is_closed, kept, parts, refused_as, serial, History, Serial}
use Rattle.hg_push.specs.Run.{run_push}
use Rattle.hg_queries.specs.Growth.{IsGrown}
use Rattle.hg_queries.proofs.PartGrowth.{grown_on, grown_same, part_grows}

module _ {A : Type 0} where
  -- the repository grows, where the run is done
  abbrev pub RunGrows : Repository A → Result (Progress A) (Refusal A) → Type 0
  RunGrows repo (Ok progress) = IsGrown repo progress.repo
  RunGrows repo (Err refusal) = Unit {0}

  run_grows : (source : Source) (place : ℕ) (progress : Progress A) (parts : List (Part A))
      → RunGrows progress.repo (run_from source place progress parts)
  run_grows source place progress [] = grown_same progress.repo
  run_grows source place progress (part ∷ parts) =
      by (handle source progress.repo progress.replying place part) refl
      (λ given. run_grows source (place + 1) (progress_after place progress part given) parts)
    where
      on : (given : Handled A) (last : Result (Progress A) (Refusal A)) → IsGrown progress.repo given.repo
          → RunGrows given.repo last → RunGrows progress.repo last
      on given (Ok last) first rest = grown_on progress.repo given.repo last.repo first rest
      on given (Err refusal) first rest = tt

      by : (result : Outcome A) → handle source progress.repo progress.replying place part ≡ result
          → ((given : Handled A) → RunGrows given.repo (run_from source (place + 1) (progress_after place progress part given) parts))
          → RunGrows progress.repo
          (and_then result (λ given. run_from source (place + 1) (progress_after place progress part given) parts))
      by (Ok given) is rest =
          on given (run_from source (place + 1) (progress_after place progress part given) parts)
          (part_grows source progress.repo progress.replying place part given is) (rest given)
      by (Err refusal) is rest = tt

  -- the repository grows, where the push is done
  abbrev pub PushGrows : {E : Type 0} → Repository A → Result (Repository A × Done A) E → Type 0
  PushGrows repo (Ok done) = IsGrown repo done.0
  PushGrows repo (Err refusal) = Unit {0}

  push_grows : (repo : Repository A) (ps : List (Part A)) → PushGrows repo (run_push repo ps)
  unfolding run_of
  push_grows repo ps = by (run_from _ 0 (start repo) ps) (run_grows _ 0 (start repo) ps)
    where
      by : (result : Result (Progress A) (Refusal A)) → RunGrows repo result
          → PushGrows repo (done_by result)
      by (Ok progress) grown = grown
      by (Err refusal) grown = tt

  -- the repository grows, where anything is decided
  abbrev pub DecidedGrows : Repository A → Option (Result (Repository A × Done A) (Reason (Refusal A))) → Type 0
  DecidedGrows repo None = Unit {0}
  DecidedGrows repo (Some result) = PushGrows repo result

  end_grows : (repo : Repository A) (result : Result (Repository A × Done A) (Refusal A))
      → PushGrows repo result → PushGrows repo (refused_as result)
  end_grows repo (Ok done) grown = grown
  end_grows repo (Err refusal) grown = tt

  what_grows : (repo : Repository A) (ps : List (Part A)) (index : ℕ) (what : What A)
      → DecidedGrows repo (decided_by run_push repo ps index what)
  what_grows repo ps index (a_part part) = tt
  what_grows repo ps index (Cut reason) = tt
  what_grows repo ps index End = by (index == length ps)
    where
      by : (b : Bool) → PushGrows repo (cond b (refused_as (run_push repo ps)) (Err WrongIndex))
      by true = end_grows repo (run_push repo ps) (push_grows repo ps)
      by false = tt

  decided_grows : (repo : Repository A) (ps : List (Part A)) (x : Taken A)
      → DecidedGrows repo (decided run_push repo ps x)
  decided_grows repo ps x = by x.refused
    where
      by : (b : Bool) → DecidedGrows repo
          (cond b (Some (Err NoMemory)) (decided_by run_push repo ps x.item.index x.item.what))
      by true = tt
      by false = what_grows repo ps x.item.index x.item.what

  kept_grows : (s : Serial (Repository A)) (p : ℕ)
      (result : Option (Result (Repository A × Done A) (Reason (Refusal A))))
      → DecidedGrows s.repo result → IsGrown s.repo (kept s p result).repo
  kept_grows s p None grown = grown_same s.repo
  kept_grows s p (Some (Err reason)) grown = grown_same s.repo
  kept_grows s p (Some (Ok done)) grown = grown

  after_grows : (before : History A) (x : Taken A) (s : Serial (Repository A))
      → IsGrown s.repo (after run_push before x s).repo
  after_grows before x s = by (is_closed x.item.push before)
    where
      by : (b : Bool) → IsGrown s.repo
          (cond b s (kept s x.item.push (decided run_push s.repo (parts x.item.push before) x))).repo
      by true = grown_same s.repo
      by false = kept_grows s x.item.push _ (decided_grows s.repo (parts x.item.push before) x)

  pub serial_grows : (first : Repository A) (late before : History A)
      → IsGrown (serial run_push first before).repo (serial run_push first (late ++ before)).repo
  serial_grows first [] before = grown_same (serial run_push first before).repo
  serial_grows first (x ∷ late) before =
      grown_on (serial run_push first before).repo (serial run_push first (late ++ before)).repo _
      (serial_grows first late before)
      (after_grows (late ++ before) x (serial run_push first (late ++ before)))
