-- What code owes that handles a part which changes nothing.
use Rattle.std.specs.Prelude.{◌≡◌, ◌⊎◌, Result, Ok, Err, MatchResult}
use Rattle.hg_parts.specs.declared.refusal.Refusal.{Refusal}
use Rattle.hg_parts.specs.declared.refusal.Refusal.TheVariants.{NoMemory}
use Rattle.hg_parts.specs.Repository.{Repository}
use Rattle.hg_parts.specs.Handled.{Outcome, nothing_done}

-- What handling such a part may answer: what the definition says, which leaves no reply, or that memory was
-- refused.
abbrev pub NothingGives : {A : Type 0} → Outcome A → Repository A → Result (Unit {0}) (Refusal A) → Type 0
NothingGives given repo result = MatchResult result
    (λ done. given ≡ Ok (nothing_done repo))
    (λ refusal. (refusal ≡ NoMemory) ⊎ (given ≡ Err refusal))
