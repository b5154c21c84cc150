-- What a run of parts on a store gives, which does not go back where one is refused.
use Rattle.std.specs.Prelude.{◌≡◌, ◌⊎◌}
use Rattle.std.specs.Prelude.{Result, Ok, Err, MatchResult}
use Rattle.hg_parts.specs.declared.refusal.Refusal.{Refusal}
use Rattle.hg_parts.specs.declared.refusal.Refusal.TheVariants.{NoMemory}

-- It answers and leaves what the definition says; or a part is refused, as the definition says, or memory, and
-- what it changed may be there.
abbrev pub PartsGive : {A R D : Type 0} → Result (R × D) (Refusal A) → R → Result D (Refusal A) → Type 0
PartsGive given new result =
    MatchResult result (λ done. given ≡ Ok (new, done)) (λ refusal. (refusal ≡ NoMemory)
    ⊎ (given ≡ Err refusal))
