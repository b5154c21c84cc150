-- What a policy was asked, and what it said.
use Rattle.std.specs.Prelude.{ℕ, ◌≡◌, ◌⊎◌, ⊤, List, [], ◌∷◌, ◌++◌, Option, None, Some}
use Rattle.hg_http.specs.declared.hook.policy.Verdict.{Verdict}

-- The bundles that a policy was asked about, each with what it said, in order. It may not report them.
abbrev pub Asked : Type 0 → Type 0
Asked A = Option (List (List ℕ × Verdict A))

-- it was asked once more, about this bundle, and said so
abbrev pub HasAsked : {A : Type 0} → Asked A → Asked A → List ℕ → Verdict A → Type 0
HasAsked None new bundle verdict = ⊤
HasAsked (Some told) None bundle verdict = ⊥
HasAsked (Some told) (Some new) bundle verdict = new ≡ told ++ (bundle, verdict) ∷ []

-- what was asked of a policy, where there is one
abbrev pub asked_of : {A P : Type 0} → (P → Asked A) → Option P → Asked A
asked_of asked None = None
asked_of asked (Some policy) = asked policy

-- it was asked once at most
abbrev pub AsksOnce : {A : Type 0} → Asked A → Asked A → Type 0
AsksOnce {A} old new = (new ≡ old) ⊎ ((bundle : List ℕ) × ((verdict : Verdict A) × HasAsked old new bundle verdict))
