-- A refusal that no run gives is told of no push.
use Rattle.std.proofs.Common.{ℕ, Bool, true, false, ◌≡◌, ◌≢◌, ◌==◌, ◌&&◌, not, List, [], ◌∷◌, ap, length}
use Rattle.std.proofs.Common.{if◌then◌else◌, Option, Some, Result, Ok, Err}
use Rattle.hg_types.specs.declared.part.Part.{Part}
use Rattle.hg_parts.specs.declared.item.What.{What}
use Rattle.hg_parts.specs.declared.item.What.TheVariants.{Part as a_part, End, Cut}
use Rattle.hg_parts.specs.declared.item.Taken.{Taken}
use Rattle.hg_push.specs.declared.outcome.Outcome.{Outcome}
use Rattle.hg_push.specs.declared.outcome.Outcome.TheVariants.{Aborted}
use Rattle.hg_push.specs.declared.outcome.Reason.TheVariants.{NoMemory, Refused, WrongIndex}
use Rattle.hg_push.specs.History.{History, Running, decided, decided_by, is_closed, is_of, outcome, parts}
use Rattle.hg_push.specs.History.{refused_as, serial, told}
use Rattle.hg_push.proofs.Trims.{either_way}

module _ {A R D E : Type 0} (run : Running A R D E) (e : E)
    (never : (repo : R) (ps : List (Part A)) → run repo ps ≢ Err e) where
  ran : (r : Result (R × D) E) → r ≢ Err e → told (Some (refused_as r)) ≢ Some (Aborted (Refused e))
  ran (Ok done) other is = cc
  ran (Err refusal) other is = let same : refusal ≡ e = cc in other (ap Err same)

  ended : (b : Bool) (r : Result (R × D) E) → r ≢ Err e
      → told (Some (if b then refused_as r else Err WrongIndex)) ≢ Some (Aborted (Refused e))
  ended true r other is = ran r other is
  ended false r other is = cc

  at_place : (repo : R) (ps : List (Part A)) (refused : Bool) (index : ℕ) (what : What A)
      → told (if refused then Some (Err NoMemory) else decided_by run repo ps index what)
      ≢ Some (Aborted (Refused e))
  at_place repo ps true index what is = cc
  at_place repo ps false index (a_part part) is = cc
  at_place repo ps false index (Cut reason) is = cc
  at_place repo ps false index End is = ended (index == length ps) (run repo ps) (never repo ps) is

  step : (repo : R) (p : ℕ) (x : Taken A) (before : History A) (old : Option (Outcome D E))
      → old ≢ Some (Aborted (Refused e))
      → (if is_of p x && not (is_closed p before) then told (decided run repo (parts p before) x) else old)
      ≢ Some (Aborted (Refused e))
  step repo p x before old other =
      either_way (is_of p x && not (is_closed p before))
      (λ t. rw t (at_place repo (parts p before) x.refused x.item.index x.item.what))
      (λ f. rw f other)

  pub never_told : (first : R) (p : ℕ) (h : History A) → outcome run first p h ≢ Some (Aborted (Refused e))
  never_told first p [] = λ is. cc
  never_told first p (x ∷ before) =
      step (serial run first before).repo p x before (outcome run first p before) (never_told first p before)
