-- How a group takes bytes: many of a chunk at once, and none once it is over.
use Rattle.std.proofs.Common.{◌≡◌, ◌≤◌, ℕ, zero, suc, ◌-◌, List, [], ◌∷◌, length, drop, take, Bool, true, false}
use Rattle.std.proofs.Common.{if◌then◌else◌, refl, sym, subst, ap, arith}
use Rattle.std.proofs.Math.Dec.{eqb-suc-zero}
use Rattle.std.proofs.lemmas.List.{length-drop, take_all}
use Rattle.hg_status.specs.declared.brought.Group.{Group}
use Rattle.hg_status.specs.Brought.{fed}

-- the first of two values
pub chosen : {X : Type 0} (b : Bool) (x y : X) → b ≡ true → (if b then x else y) ≡ x
chosen b x y is = subst (λ (v : Bool). (if v then x else y) ≡ x) (sym is) refl

-- a group that is over stays as it is
pub fed_over : (group : Group) (bytes : List ℕ) → group.is_over ≡ true → fed group bytes ≡ group
fed_over group [] over = refl
fed_over group (byte ∷ bytes) over =
    subst (λ (g : Group). fed g bytes ≡ group) (sym (chosen group.is_over group _ over)) (fed_over group bytes over)

-- bytes of a chunk are dropped together
pub fed_skipped : (k : ℕ) (group : Group) (left : ℕ) (bytes : List ℕ) → group.is_over ≡ false → k ≤ left →
    k ≤ length bytes → fed (record group { left = left - k }) (drop k bytes) ≡ fed (record group { left = left }) bytes
fed_skipped zero group left bytes over inside within =
    let e : left - 0 ≡ left = omega arith in
    ap (λ (n : ℕ). fed (record group { left = n }) bytes) e
fed_skipped (suc k) group zero bytes over inside within = absurd (omega (arith, inside))
fed_skipped (suc k) group (suc left) [] over inside within = absurd (omega (arith, within))
fed_skipped (suc k) group (suc left) (byte ∷ bytes) over inside within =
    let a : suc left - suc k ≡ left - k = omega arith in
    let b : suc left - 1 ≡ left = omega arith in
    let rest : fed (record group { left = left - k }) (drop k bytes) ≡ fed (record group { left = left }) bytes =
    fed_skipped k group left bytes over (omega arith) (omega arith) in
    simp (over, a, b, eqb-suc-zero) (simp over at rest)

-- what is left of a slice from a place on
pub rest_is : (k : ℕ) (bytes : List ℕ) → take (length bytes - k) (drop k bytes) ≡ drop k bytes
rest_is k bytes = take_all (length bytes - k) (drop k bytes) (omega (arith, length-drop k bytes))
