-- Which pushes run: those that a policy lets through.
use Rattle.std.specs.Prelude.{ℕ, ◌≡◌, List, Option, Some, None}
use Rattle.hg_commit.specs.Clients.{KeptSeen}
use Rattle.hg_http.specs.declared.hook.policy.Verdict.{Verdict}
use Rattle.hg_http.specs.declared.hook.policy.Verdict.TheVariants as Verdicts
use Rattle.hg_http.specs.declared.answer.HttpAnswer.{HttpAnswer}
use Rattle.hg_http.specs.declared.answer.HttpAnswer.TheVariants.{NotLet, Refused}
use Rattle.hg_http.specs.declared.answer.RequestRefusal.TheVariants.{NoHook, NoMemory}

-- what is answered where a push may not run
abbrev pub denial_of : {A : Type 0} → Verdict A → Option (HttpAnswer A)
denial_of Verdicts.LetThrough = None
denial_of (Verdicts.Refused why) = Some (NotLet why)
denial_of Verdicts.NoAnswer = Some (Refused NoHook)
denial_of Verdicts.NoMemory = Some (Refused NoMemory)

-- a push that may run is answered so; where one may not, that is answered, and nothing changed
abbrev pub IfLet : {A : Type 0} → Option (HttpAnswer A) → (KeptSeen A → HttpAnswer A → KeptSeen A → Type 0) →
    KeptSeen A → HttpAnswer A → KeptSeen A → Type 0
IfLet None Pushes before answer after = Pushes before answer after
IfLet (Some denial) Pushes before answer after = (answer ≡ denial) × (after ≡ before)

-- The policy was asked about this bundle, and what is done is what it said.
pub record AnswersIfLet {A : Type 0} (asks : List ℕ → Verdict A → Type 0) (bundle : List ℕ)
    (Pushes : KeptSeen A → HttpAnswer A → KeptSeen A → Type 0) (before : KeptSeen A) (answer : HttpAnswer A)
    (after : KeptSeen A) : Type 0 where
  pub verdict : Verdict A
  pub asked : asks bundle verdict
  pub answers : IfLet (denial_of verdict) Pushes before answer after
