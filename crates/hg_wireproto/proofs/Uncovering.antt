-- Rows that are said to be heads, one after the other.
use Rattle.std.proofs.Common.{◌≡◌, ◌↔◌, ◌⊎◌, ℕ, ◌+◌, ◌<◌, ◌≤◌, Bool, false, List, [], ◌∷◌, ◌++◌, length, get_or, set}
use Rattle.std.proofs.Common.{take, refl, sym, ap, ◌∙◌, subst, inl, inr, arith}
use Rattle.std.specs.Prelude.{Contains}
use Rattle.std.proofs.lemmas.Bool.{cases_eq}
use Rattle.std.proofs.lemmas.List.{get_or-set_other, get_or-set_same, length-set, take_all, take_more}
use Rattle.std.proofs.lemmas.List.Elements.{Contains-append_left, Contains-push, Contains-push_cases}

pub record AreUncovered (heads : List ℕ) (old new : List Bool) : Type 0 where
  pub as_long : length new ≡ length old
  pub each : (r : ℕ) → (get_or new r false ≡ false) ↔ ((get_or old r false ≡ false) ⊎ Contains heads r)

pub none_uncovered : (old : List Bool) → AreUncovered [] old old
none_uncovered old = record {
  as_long = refl;
  each = λ r. (λ is. inl is, λ is. elim is [ inl e ↦ e | inr has ↦ absurd (omega (arith, has.1)) ]);
}

-- one more is
pub one_uncovered : (heads : List ℕ) (old now next : List Bool) (i head : ℕ) → i < length heads
    → head ≡ get_or heads i 0 → head < length now → next ≡ set now head false
    → AreUncovered (take i heads) old now → AreUncovered (take (i + 1) heads) old next
one_uncovered heads old now next i head within read low is held =
    let more : take (i + 1) heads ≡ take i heads ++ head ∷ [] =
    take_more heads i 0 within ∙ ap (λ x. take i heads ++ x ∷ []) (sym read) in
    let here : get_or next head false ≡ false =
    ap (λ (l : List Bool). get_or l head false) is ∙ get_or-set_same now head false false low in
    record {
      as_long = ap length is ∙ length-set now head false ∙ held.as_long;
      each = λ r. elim (cases_eq r head) [
        | inl e ↦ (
          λ _. inr (subst (λ (l : List ℕ). Contains l r) (sym more)
              (subst (Contains (take i heads ++ head ∷ [])) (sym e) (Contains-push (take i heads) head))),
          λ _. ap (λ k. get_or next k false) e ∙ here,
        )
        | inr ne ↦
            let there : get_or next r false ≡ get_or now r false =
            ap (λ (l : List Bool). get_or l r false) is ∙ get_or-set_other now head r false false ne in (
              λ so. elim ((held.each r).0 (sym there ∙ so)) [
                | inl was ↦ inl was
                | inr has ↦ inr (subst (λ (l : List ℕ). Contains l r) (sym more)
                    (Contains-append_left (take i heads) (head ∷ []) r has))
              ],
              λ so. there ∙ (held.each r).1 (elim so [
                | inl was ↦ inl was
                | inr has ↦ elim (Contains-push_cases (take i heads) head r
                    (subst (λ (l : List ℕ). Contains l r) more has)) [
                      | inl before ↦ inr before
                      | inr same ↦ absurd (ne (sym same))
                    ]
              ]),
            )
      ];
    }

pub all_uncovered : (heads : List ℕ) (old new : List Bool) (i : ℕ) → length heads ≤ i
    → AreUncovered (take i heads) old new → AreUncovered heads old new
all_uncovered heads old new i past held =
    subst (λ (hs : List ℕ). AreUncovered hs old new) (take_all i heads past) held
