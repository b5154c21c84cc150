-- What a hook answers, and what that says of a push.
use Rattle.std.specs.Prelude.{ℕ, ◌≡◌, ◌==◌, ⊤, List, [], ◌∷◌, ◌++◌, Option, None, Some, Result, Ok, Err, map}
use Rattle.std.specs.Prelude.{if◌then◌else◌}
use Rattle.std.specs.Option.{option_map}
use Rattle.hg_http.specs.declared.hook.answer.HookAnswer.{HookAnswer}
use Rattle.hg_http.specs.declared.hook.HookSilence.{HookSilence}
use Rattle.hg_http.specs.declared.hook.HookSilence.TheVariants as Silence
use Rattle.hg_http.specs.declared.hook.policy.Verdict.{Verdict}
use Rattle.hg_http.specs.declared.hook.policy.Verdict.TheVariants.{LetThrough, Refused, NoAnswer, NoMemory}
use Rattle.hg_http.specs.Policies.{Asked}
use Rattle.std.specs.declared.alloc.Global.{Global as Heap}

-- what came of a question
abbrev pub Answered : Type 0
Answered = Result HookAnswer HookSilence

-- The bundles that were sent to a hook, each with what came of it, in order. A line may not report them.
abbrev pub Exchanges : Type 0
Exchanges = Option (List (List ℕ × Answered))

-- one more was sent, and this came of it
abbrev pub HasExchanged : Exchanges → Exchanges → List ℕ → Answered → Type 0
HasExchanged None new bundle answered = ⊤
HasExchanged (Some told) None bundle answered = ⊥
HasExchanged (Some told) (Some new) bundle answered = new ≡ told ++ (bundle, answered) ∷ []

-- a refusal, by a line that says why; an empty one says nothing
abbrev pub refused_by : List ℕ → Verdict Heap
refused_by [] = NoAnswer
refused_by (byte ∷ line) = Refused (byte ∷ line)

-- The status 200 lets a push through, and nothing else does.
abbrev pub verdict_of : Answered → Verdict Heap
verdict_of (Ok answer) = if answer.status == 200 then LetThrough else refused_by answer.line
verdict_of (Err Silence.NoAnswer) = NoAnswer
verdict_of (Err Silence.NoMemory) = NoMemory

-- what is said of a push of which that came
abbrev pub said_of : List ℕ × Answered → List ℕ × Verdict Heap
said_of exchange = (exchange.0, verdict_of exchange.1)

-- what is said of all that were sent
abbrev pub asked_by : Exchanges → Asked Heap
asked_by exchanges = option_map (λ all. map said_of all) exchanges
