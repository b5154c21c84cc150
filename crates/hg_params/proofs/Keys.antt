-- Keys that stand twice.
use Rattle.std.proofs.Common.{◌≡◌, ◌≢◌, ◌↔◌, ℕ, zero, suc, ◌<◌, slice_index_or, Bool, true, false, IsTrue}
use Rattle.std.proofs.Common.{List, [], ◌∷◌, length, map, refl, sym, ap, subst, ◌∙◌, arith}
use Rattle.std.specs.List.{AllByRecursion, Any}
use Rattle.std.proofs.lemmas.Bool.{false≢true}
use Rattle.hg_types.specs.declared.part.Param.{Param}
use Rattle.hg_params.specs.Header.{AreDistinct}

abbrev pub param_keys : {A : Type 0} → List (Param A) → List (List ℕ)
param_keys params = map (λ p. p.key) params

-- some parameter has the key
abbrev pub HasKey : {A : Type 0} → List (Param A) → List ℕ → Type 0
HasKey {A} params key = Any (λ (p : Param A). p.key ≡ key) params

abbrev pub IsFresh : List ℕ → List (List ℕ) → Type 0
IsFresh key keys = AllByRecursion (λ later. key ≢ later) keys

HasKey-later : {A : Type 0} (p : Param A) (params : List (Param A)) (key : List ℕ) → HasKey params key
    → HasKey (p ∷ params) key
HasKey-later p params key h = (suc h.0, h.1, omega arith, h.3, h.4)

fresh : {A : Type 0} (params : List (Param A)) (key : List ℕ) → (HasKey params key → ⊥)
    → IsFresh key (param_keys params)
fresh [] key none = tt
fresh (p ∷ params) key none = (
  λ e. none (zero, p, omega arith, refl, sym e),
  fresh params key (λ h. none (HasKey-later p params key h)),
)

found : {A : Type 0} (params : List (Param A)) (key : List ℕ) (k : ℕ) (x : Param A) → k < length params
    → slice_index_or params k x ≡ x → x.key ≡ key → IsFresh key (param_keys params) → ⊥
found [] key k x within there same all = absurd (omega arith)
found (p ∷ params) key zero x within there same all =
    all.0 (sym same ∙ ap (λ (q : Param _). q.key) (sym there))
found (p ∷ params) key (suc k) x within there same all = found params key k x (omega arith) there same all.1

-- one more key, which does not stand later
pub distinct_more : {A : Type 0} (p : Param A) (later params : List (Param A)) (key : List ℕ) (has : Bool)
    → params ≡ p ∷ later → key ≡ p.key → (IsTrue has ↔ HasKey later key) → has ≡ false
    → AreDistinct (param_keys later) ↔ AreDistinct (param_keys params)
unfolding AreDistinct
distinct_more {A} p later params key has e key_is h is_not =
    let none : HasKey later p.key
    → ⊥ = λ some. false≢true (sym is_not
    ∙ h.1 (subst (λ (k : List ℕ). HasKey later k) (sym key_is) some)) in
    subst (λ (ps : List (Param A)). AreDistinct (param_keys later) ↔ AreDistinct (param_keys ps)) (sym e)
    ((λ d. (fresh later p.key none, d)), (λ d. d.1))

-- and one that does
pub not_distinct : {A : Type 0} (p : Param A) (later params : List (Param A)) (key : List ℕ) (has : Bool)
    → params ≡ p ∷ later → key ≡ p.key → (IsTrue has ↔ HasKey later key) → has ≡ true
    → AreDistinct (param_keys params) → ⊥
unfolding AreDistinct
not_distinct {A} p later params key has e key_is h is distinct =
    let there : HasKey later p.key = subst (λ (k : List ℕ). HasKey later k) key_is (h.0 is) in
    let d : AreDistinct (param_keys (p ∷ later)) = subst
    (λ (ps : List (Param A)). AreDistinct (param_keys ps)) e distinct in
    found later p.key there.0 there.1 there.2 there.3 there.4 d.0
