-- What a part that is handled gives, and what code owes that handles it.
use Rattle.std.specs.Prelude.{◌≡◌, ◌⊎◌, Option, None, Result, Ok, Err, MatchResult, IfOk, IfSome, OnOk}
use Rattle.hg_types.specs.declared.part.Part.{Part}
use Rattle.hg_parts.specs.declared.refusal.Refusal.{Refusal}
use Rattle.hg_parts.specs.declared.refusal.Refusal.TheVariants.{NoMemory}
use Rattle.hg_parts.specs.declared.store.Store.{Store}
use Rattle.hg_parts.specs.declared.turn.Turn.{Turn}
use Rattle.hg_parts.specs.Repository.{Repository}
use Rattle.hg_parts.specs.Replies.{IsReply}
use Rattle.hg_parts.specs.Store.{repository_of, IsSound, IsGrown}

-- The repository after the part, and at most one part of the reply.
pub record Handled (A : Type 0) : Type 0 where
  pub repo : Repository A
  pub reply : Option (Part A)

-- what handling a part gives, or why it is refused
abbrev pub Outcome : Type 0 → Type 0
Outcome A = Result (Handled A) (Refusal A)

-- the part changes nothing and leaves no reply
abbrev pub nothing_done : {A : Type 0} → Repository A → Handled A
nothing_done repo = record { repo = repo; reply = None }

-- What handling a part by code may answer and leave: what the definition says, or that memory was refused.
abbrev pub HandleGives : {A : Type 0} → Outcome A → Repository A → Result (Option (Part A)) (Refusal A)
    → Type 0
HandleGives given new result = MatchResult result
    (λ reply. given ≡ Ok (record { repo = new; reply = reply }))
    (λ refusal. (refusal ≡ NoMemory) ⊎ (given ≡ Err refusal))

-- What each handler of a type of part owes, in that turn. Where the part is handled, the store holds a lawful
-- repository again. Changesets and markers came at their ends, and the savepoints stay, also where it is refused. A
-- reply can be written. The answer and the store are what the definition gives, or memory was refused.
pub record Handles {A : Type 0} (turn : Turn) (given : Outcome A) (old new : Store A)
    (result : Result (Option (Part A)) (Refusal A)) : Type 0 where
  pub sound : OnOk result (IsSound turn.settings new)
  pub grown : IsGrown old new
  pub reply : IfOk result (λ reply. IfSome reply IsReply)
  pub gives : HandleGives given (repository_of turn.settings new) result
