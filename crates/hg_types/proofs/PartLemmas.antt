-- The first parameter with a key, by its place.
use Rattle.std.proofs.Common.{◌≡◌, ◌≢◌, ◌<◌, ◌+◌, ℕ, List, ◌++◌, ◌∷◌, [], length, refl, sym, ◌∙◌, ap, take}
use Rattle.std.proofs.Common.{drop, get_or, subst, Bool, true, false, IsTrue}
use Rattle.std.proofs.lemmas.List.{take-append-drop, drop_more, take_more}
use Rattle.std.proofs.lemmas.List.Elements.{All-push, recursion_from_All}
use Rattle.std.specs.List.{AllByRecursion}
use Rattle.hg_types.specs.declared.part.Param.{Param}
use Rattle.hg_types.specs.Part.{LacksKey, IsFirstWith}

-- none before place i has the key, and the parameter there has it
pub first_with : {A : Type 0} → (params : List (Param A)) (key : List ℕ) (i : ℕ) (p : Param A)
    → i < length params
    → p ≡ get_or params i p → LacksKey (take i params) key → p.key ≡ key → IsFirstWith params key p.value
first_with params key i p within here others key_is = record {
  before = take i params;
  found = p;
  after = drop (i + 1) params;
  spelled = sym (take-append-drop i params)
      ∙ ap (λ rest. take i params ++ rest) (drop_more params i p within
      ∙ ap (λ q. q ∷ drop (i + 1) params) (sym here));
  others = others;
  key_is = key_is;
  value_is = refl;
}

-- and neither has the parameter there
pub lacks_more : {A : Type 0} → (params : List (Param A)) (key : List ℕ) (i : ℕ) (p : Param A)
    → i < length params
    → p ≡ get_or params i p → LacksKey (take i params) key → p.key ≢ key → LacksKey (take (i + 1) params) key
lacks_more {A} params key i p within here others not_key =
    let e : take (i + 1) params ≡ take i params ++ p ∷ [] = take_more params i p within
    ∙ ap (λ q. take i params ++ q ∷ []) (sym here) in
    subst (λ ps. LacksKey ps key) (sym e)
    (All-push (λ param. param.key ≢ key) (take i params) p others not_key)

-- a test that is false, and would be true
pub differs : {P : Type 0} {b : Bool} → (P → IsTrue b) → b ≡ false → P → ⊥
differs told is_false p = let both : false ≡ true = sym is_false ∙ told p in cc

module _ {A : Type 0} where
  -- of two places of a key with none before them, each is the other
  one_first : (before others more rest : List (Param A)) (x y : Param A) (key : List ℕ) → before ++ x
      ∷ more ≡ others ++ y ∷ rest
      → AllByRecursion (λ p. p.key ≢ key) before → AllByRecursion (λ p. p.key ≢ key) others → x.key ≡ key
      → y.key ≡ key → x ≡ y
  one_first [] [] more rest x y key e none nor has also = cc
  one_first [] (o ∷ os) more rest x y key e none nor has also =
      let same : x ≡ o = cc in absurd (nor.0 (sym (ap (λ (p : Param A). p.key) same) ∙ has))
  one_first (b ∷ bs) [] more rest x y key e none nor has also =
      let same : b ≡ y = cc in absurd (none.0 (ap (λ (p : Param A). p.key) same ∙ also))
  one_first (b ∷ bs) (o ∷ os) more rest x y key e none nor has also =
      one_first bs os more rest x y key (cc) none.1 nor.1 has also

  -- what is said of each is said of one in the midst
  one_of : (P : Param A → Type 0) (before more : List (Param A)) (x : Param A)
      → AllByRecursion P (before ++ x ∷ more) → P x
  one_of P [] more x each = each.0
  one_of P (b ∷ bs) more x each = one_of P bs more x each.1

  pub one_value : (params : List (Param A)) (key a b : List ℕ) → IsFirstWith params key a
      → IsFirstWith params key b → a ≡ b
  one_value params key a b first other =
      let same = one_first first.before other.before first.after other.after first.found other.found key
      (sym first.spelled ∙ other.spelled)
      (recursion_from_All (λ (p : Param A). p.key ≢ key) first.before first.others)
      (recursion_from_All (λ (p : Param A). p.key ≢ key) other.before other.others)
      first.key_is other.key_is in
      sym first.value_is ∙ ap (λ (p : Param A). p.value) same ∙ other.value_is

  pub not_lacking : (params : List (Param A)) (key value : List ℕ) → IsFirstWith params key value
      → LacksKey params key → ⊥
  not_lacking params key value first lacks =
      let each = recursion_from_All (λ (p : Param A). p.key ≢ key) params lacks in
      one_of (λ (p : Param A). p.key ≢ key) first.before first.after first.found
      (subst (AllByRecursion (λ (p : Param A). p.key ≢ key)) first.spelled each) first.key_is
