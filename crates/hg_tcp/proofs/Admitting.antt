-- Connections that are admitted one after another.
use Rattle.std.proofs.Common.{◌≡◌, ℕ, ◌<◌, ◌+◌, List, [], ◌∷◌, ◌++◌, true, false, Bool, Option, refl, sym}
use Rattle.std.proofs.Common.{◌∙◌, ap, subst, inl, inr, append_assoc, zero, suc, arith}
use Rattle.std.proofs.lemmas.List.{append-nil}
use Rattle.hg_connection.specs.Devices.{TellsMore}
use Rattle.hg_connection.proofs.DeviceLemmas.{Adds-nil, Adds-trans}
use Rattle.hg_tcp.specs.declared.terms.ServeTerms.{ServeTerms}
use Rattle.hg_tcp.specs.Accepting.{Accepted, Admits, AdmitsAll, DoorUse, Started, served}

abbrev each : ServeTerms → List DoorUse
each terms = Accepted true ∷ Started terms true ∷ []

-- one more at the end is one more in front
served_more : (n : ℕ) (terms : ServeTerms) → served n terms ++ each terms ≡ served (suc n) terms
served_more zero terms = refl
served_more (suc n) terms = append_assoc (each terms) (served n terms) (each terms)
    ∙ ap (λ l. each terms ++ l) (served_more n terms)

next : (n : ℕ) → suc n ≡ n + 1
next n = omega arith

pub starts : (door : Option (List DoorUse)) (terms : ServeTerms) → TellsMore door door (served 0 terms)
starts door terms = Adds-nil door

pub goes_on : (before now after : Option (List DoorUse)) (terms : ServeTerms) (n : ℕ)
    → TellsMore before now (served n terms) → Admits now after terms true → TellsMore before after (served (n + 1) terms)
goes_on before now after terms n so_far more =
    subst (λ (l : List DoorUse). TellsMore before after l)
    (served_more n terms ∙ ap (λ (k : ℕ). served k terms) (next n))
    (Adds-trans before now after (served n terms) (each terms) so_far more)

pub stops : (before now after : Option (List DoorUse)) (terms : ServeTerms) (n : ℕ)
    → TellsMore before now (served n terms) → n < terms.connections → Admits now after terms false
    → AdmitsAll before after terms true
stops before now after terms n so_far less failure = (
  served n terms ++ failure.0,
  Adds-trans before now after (served n terms) failure.0 so_far failure.1,
  record { count = n; last = failure.0; uses_are = refl; ends = (less, failure.2) },
)

pub all_served : (before now : Option (List DoorUse)) (terms : ServeTerms) (n : ℕ)
    → TellsMore before now (served n terms) → n ≡ terms.connections → AdmitsAll before now terms false
all_served before now terms n so_far all = (
  served n terms,
  so_far,
  record { count = n; last = []; uses_are = sym (append-nil (served n terms)); ends = (all, refl) },
)

-- a connection that was not accepted, or not started
pub not_accepted : (before after : Option (List DoorUse)) (terms : ServeTerms) → TellsMore before after (Accepted false ∷ [])
    → Admits before after terms false
not_accepted before after terms told = (Accepted false ∷ [], told, inl refl)

pub accepted : (before way after : Option (List DoorUse)) (terms : ServeTerms) (started : Bool)
    → TellsMore before way (Accepted true ∷ []) → TellsMore way after (Started terms started ∷ [])
    → Admits before after terms started
accepted before way after terms true first next =
    Adds-trans before way after (Accepted true ∷ []) (Started terms true ∷ []) first next
accepted before way after terms false first next = (
  Accepted true ∷ Started terms false ∷ [],
  Adds-trans before way after (Accepted true ∷ []) (Started terms false ∷ []) first next,
  inr refl,
)
