-- A history without some of its places, and the pushes of a journal run one by one.
use Rattle.std.specs.Prelude.{ℕ, ◌≡◌, ◌&&◌, ◌++◌, List, [], ◌∷◌, Bool, true, false, Option, None, Some, Ok}
use Rattle.std.specs.Prelude.{if◌then◌else◌}
use Rattle.hg_types.specs.declared.part.Part.{Part}
use Rattle.hg_push.specs.declared.outcome.Outcome.TheVariants.{Done, Aborted}
use Rattle.hg_push.specs.declared.outcome.Outcome.{Outcome}
use Rattle.hg_parts.specs.declared.item.Taken.{Taken}
use Rattle.hg_push.specs.History.{History, IsClosing, Running, is_of, is_closed}

-- without the items of p after the place that closed it
abbrev pub trimmed : {A : Type 0} → ℕ → History A → History A
trimmed p [] = []
trimmed p (x ∷ before) = if is_of p x && is_closed p before then trimmed p before else x ∷ trimmed p before

-- without all items of p
abbrev pub without : {A : Type 0} → ℕ → History A → History A
without p [] = []
without p (x ∷ before) = if is_of p x then without p before else x ∷ without p before

-- The pushes of the journal, run one by one from the first repository, each with its parts, all succeed and
-- lead to the last.
abbrev pub OneByOne : {A R D E : Type 0} → Running A R D E → (ℕ → List (Part A)) → R → List ℕ → R → Type 0
OneByOne run of first [] last = first ≡ last
OneByOne {A} {R} {D} run of first (p ∷ journal) last =
    (mid : R) × (done : D) × (run first (of p) ≡ Ok (mid, done)) × OneByOne run of mid journal last

-- The push p ran in its turn: on the repository that the pushes before it in the journal give, with that
-- answer. Those after it lead on to the last.
pub record RanInTurn {A R D E : Type 0} (run : Running A R D E) (of : ℕ →
    List (Part A)) (first : R) (journal : List ℕ) (last : R) (p : ℕ) (done : D) : Type 0 where
  pub front : List ℕ
  pub back : List ℕ
  pub spelled : journal ≡ front ++ p ∷ back
  pub before : R
  pub after : R
  pub earlier : OneByOne run of first front before
  pub ran : run before (of p) ≡ Ok (after, done)
  pub later : OneByOne run of after back last

-- the outcome of a push that is done
abbrev pub is_done : {D E : Type 0} → Option (Outcome D E) → Bool
is_done None = false
is_done (Some (Done done)) = true
is_done (Some (Aborted reason)) = false

-- One place of the history closed the push.
pub record IsClosedAt {A : Type 0} (p : ℕ) (h : History A) : Type 0 where
  pub late : History A
  pub place : Taken A
  pub before : History A
  pub spelled : h ≡ late ++ place ∷ before
  pub closing : IsClosing p place before
