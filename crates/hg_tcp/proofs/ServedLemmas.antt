-- Clients that were served.
use Rattle.std.proofs.Common.{◌≡◌, ℕ, List, [], ◌∷◌, ◌++◌, Bool, true, false, if◌then◌else◌, All, subst}
use Rattle.std.proofs.lemmas.List.Elements.{All-push, All-same}
use Rattle.hg_parts.specs.declared.item.Taken.{Taken}
use Rattle.hg_types.specs.declared.limits.Limits.{Limits}
use Rattle.hg_parts.specs.Repository.{Repository}
use Rattle.hg_connection.specs.Devices.{Input, Output}
use Rattle.hg_connection.specs.declared.served.Served.{Served}
use Rattle.hg_connection.specs.Connections.{Connects}
use Rattle.hg_tcp.specs.Served.{WasServed}

pub was_served : {A : Type 0} (limits : Limits) (capacity : ℕ) (first : Repository A) (most bundles : ℕ)
    (input left : Input) (out sent : Output) (before after : List (Taken A)) (served : Served A)
    → Connects limits capacity first most input left out sent before after served
    → limits ≡ first.settings.limits → most ≡ bundles → before ≡ [] → WasServed capacity first bundles after
was_served limits capacity first most bundles input left out sent before after served connects its so new = record {
  input = input;
  left = left;
  out = out;
  sent = sent;
  served = served;
  connects = subst (λ l. Connects l capacity first bundles input left out sent [] after served) its
      (subst (λ (n : ℕ). Connects limits capacity first n input left out sent [] after served) so
      (subst (λ b. Connects limits capacity first most input left out sent b after served) new connects));
}

-- so are those of a list, with one more where there was room for it
pub all_kept : {X : Type 0} (P : X → Type 0) (room : Bool) (old new : List X) (x : X)
    → new ≡ (if room then old ++ x ∷ [] else old) → All P old → P x → All P new
all_kept P true old new x is all one = All-same P new (old ++ x ∷ []) is (All-push P old x all one)
all_kept P false old new x is all one = All-same P new old is all
