-- A push that is let through, and one that is not.
use Rattle.std.proofs.Common.{◌≡◌, ℕ, Bool, List, Option, Some, None, refl, sym, subst, ◌∙◌, inl}
use Rattle.std.specs.Prelude.{Result, Ok, Err}
use Rattle.hg_store.specs.Entries.{Stamp}
use Rattle.hg_push.specs.Run.{RepositoryOf}
use Rattle.hg_commit.specs.Clients.{KeptSeen}
use Rattle.hg_commit.specs.Orders.{ReceiptView}
use Rattle.hg_http.specs.declared.hook.policy.Verdict.{Verdict}
use Rattle.hg_http.specs.declared.answer.HttpAnswer.{HttpAnswer}
use Rattle.hg_web.specs.Answering.{OrLacks}
use Rattle.hg_web.specs.Letting.{AnswersIfLet, denial_of, IfLet}
use Rattle.hg_web.specs.Pushes.{Answered, How, IsPushAnswered}

module _ {A : Type 0} (asks : List ℕ → Verdict A → Type 0) (bundle : List ℕ)
    (Pushes : KeptSeen A → HttpAnswer A → KeptSeen A → Type 0) (before : KeptSeen A)
    (found : Option (HttpAnswer A)) (verdict : Verdict A) (asked : asks bundle verdict)
    (says : found ≡ denial_of verdict)
  where
    -- it is not let through, and that is answered
    pub denied : (answer : HttpAnswer A) → found ≡ Some answer → AnswersIfLet asks bundle Pushes before answer before
    denied answer is = record {
      verdict = verdict;
      asked = asked;
      answers = subst (λ d. IfLet d Pushes before answer before) (sym is ∙ says) (refl, refl);
    }

    -- it is let through, and runs
    pub let_run : {E : Type 0} (result : Result (HttpAnswer A) E) (after : KeptSeen A) → found ≡ None →
        Answered Pushes before result after →
        Answered (λ b a n. AnswersIfLet asks bundle Pushes b a n) before result after
    let_run (Ok answer) after is answered = record {
      verdict = verdict;
      asked = asked;
      answers = subst (λ d. IfLet d Pushes before answer after) (sym is ∙ says) answered;
    }
    let_run (Err fault) after is answered = answered

-- an answer that is given is one that is given where memory is not lacking
pub or_lacks : {A E : Type 0} (looks : Bool) (Says : KeptSeen A → HttpAnswer A → KeptSeen A → Type 0)
    (before : KeptSeen A) (result : Result (HttpAnswer A) E) (after : KeptSeen A) →
    Answered Says before result after → Answered (OrLacks looks Says) before result after
or_lacks looks Says before (Ok answer) after is = inl is
or_lacks looks Says before (Err fault) after is = is

-- a push that was answered is one at some time, by the one whose name its stamp has
pub timed : {A E : Type 0} (capacity : ℕ) (first : RepositoryOf A) (kept : ReceiptView → KeptSeen A → ℕ → Type 0) (stamp : Stamp)
    (bundle : List ℕ) (reply : How A → List ℕ) (before : KeptSeen A) (result : Result (HttpAnswer A) E)
    (after : KeptSeen A) → Answered (IsPushAnswered capacity first kept stamp bundle reply) before result after →
    Answered (λ b a n. (time : ℕ) × IsPushAnswered capacity first kept
    (record { time = time; name = stamp.name }) bundle reply b a n) before result after
timed capacity first kept stamp bundle reply before (Ok answer) after is = (stamp.time, is)
timed capacity first kept stamp bundle reply before (Err fault) after is = is
