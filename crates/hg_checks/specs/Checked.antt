-- What a check answers.
use Rattle.std.specs.Prelude.{◌≡◌, ◌⊎◌, List, [], ◌∷◌, Result, Ok, Err, MatchResult}
use Rattle.hg_checks.specs.declared.fault.CheckFault.{CheckFault}
use Rattle.hg_checks.specs.declared.fault.CheckFault.TheVariants.{NoMemory}

-- content, or a fault
abbrev pub Answer : Type 0
Answer = Result (Unit {0}) CheckFault

-- what a function returned is the answer, unless memory was refused
abbrev pub CheckGives : Answer → Answer → Type 0
CheckGives result answer = MatchResult result (λ content. answer ≡ Ok tt) (λ fault. (fault ≡ NoMemory)
    ⊎ (answer ≡ Err fault))

-- the first of two answers that is not content
abbrev pub and_then : Answer → Answer → Answer
and_then (Ok content) next = next
and_then (Err fault) next = Err fault

-- the first entry that is refused decides
abbrev pub all_checked : {X : Type 0} → (X → Answer) → List X → Answer
all_checked check [] = Ok tt
all_checked check (entry ∷ entries) = and_then (check entry) (all_checked check entries)
