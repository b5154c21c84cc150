-- The texts of a reply.
use Rattle.std.proofs.Common.{ℕ, ◌≡◌, ◌<◌, ◌≤◌, ◌+◌, ◌==◌, Bool, false, List, [], ◌∷◌, ◌++◌, refl, sym, ◌∙◌}
use Rattle.std.proofs.Common.{ap, arith, take, length, zero, suc, append_assoc, min}
use Rattle.std.specs.List.{join_with_byte}
use Rattle.std.specs.Prelude.{codes, nat_le}
use Rattle.std.proofs.lemmas.Bool.Decides.{nat_tests}
use Rattle.hg_push.proofs.Trims.{either_way}
use Rattle.std.proofs.Math.ListN.{get_or}
use Rattle.std.proofs.lemmas.List.{length-take-le, take_all, take_more}
use Rattle.hg_types.specs.declared.part.Param.{Param}
use Rattle.hg_push.specs.Reply.{telling, unknown_params}

-- one more after others
join_push : (c : ℕ) (xs : List (List ℕ)) (y : List ℕ) → 0 < length xs
    → join_with_byte c (xs ++ y ∷ []) ≡ (join_with_byte c xs ++ c ∷ []) ++ y
join_push c [] y some = absurd (omega arith)
join_push c (x ∷ []) y some = sym (append_assoc x (c ∷ []) y)
join_push c (x ∷ x2 ∷ xs) y some =
    ap (λ t. x ++ c ∷ t) (join_push c (x2 ∷ xs) y (omega arith))
    ∙ sym (ap (λ t. t ++ y) (append_assoc x (c ∷ join_with_byte c (x2 ∷ xs)) (c ∷ []))
    ∙ append_assoc x (c ∷ (join_with_byte c (x2 ∷ xs) ++ c ∷ [])) y)

taken : (names : List (List ℕ)) (i : ℕ) (y : List ℕ) → i < length names → y ≡ get_or names i y
    → take (i + 1) names ≡ take i names ++ y ∷ []
taken names i y within is = take_more names i y within ∙ ap (λ x. take i names ++ x ∷ []) (sym is)

pub join_more : (c : ℕ) (names : List (List ℕ)) (i : ℕ) (y joined new : List ℕ) → i < length names
    → y ≡ get_or names i y → 0 < i → joined ≡ join_with_byte c (take i names) → new ≡ (joined ++ c ∷ []) ++ y
    → new ≡ join_with_byte c (take (i + 1) names)
join_more c names i y joined new within is some was now =
    let front : 0 < length (take i names) = rw (length-take-le i names (omega arith)) some in
    now ∙ (ap (λ j. (j ++ c ∷ []) ++ y) was
    ∙ (sym (join_push c (take i names) y front)
    ∙ ap (join_with_byte c) (sym (taken names i y within is))))

pub join_first : (c : ℕ) (names : List (List ℕ)) (i : ℕ) (y joined new : List ℕ) → i < length names
    → y ≡ get_or names i y → i ≤ 0 → joined ≡ join_with_byte c (take i names) → new ≡ joined ++ y
    → new ≡ join_with_byte c (take (i + 1) names)
join_first c names zero y joined new within is none was now =
    now ∙ (ap (λ j. j ++ y) was ∙ ap (join_with_byte c) (sym (taken names zero y within is)))
join_first c names (suc i) y joined new within is none was now = absurd (omega arith)

pub cut_at : (value : List ℕ) (end : ℕ) → end ≡ min (length value) 255 → take end value ≡ take 255 value
cut_at value end is =
    either_way (nat_le (length value) 255)
    (λ t. let short : length value ≤ 255 = grind (arith, nat_tests) in
    take_all end value (omega (arith, is, short)) ∙ sym (take_all 255 value short))
    (λ f. let long : 255 < length value = grind (arith, nat_tests) in
    let e : end ≡ 255 = omega (arith, is, long) in ap (λ n. take n value) e)

pub some_unknown : {A : Type 0} (names : List (List ℕ)) → 0 < length names
    → unknown_params {A = A} names ≡ telling (codes "params") (join_with_byte 0 names) ∷ []
some_unknown [] some = absurd (omega arith)
some_unknown (name ∷ names) some = refl

pub both_params : {A : Type 0} (kind : List ℕ) (names : List (List ℕ)) (params new : List (Param A))
    (joined : List ℕ) (more : Param A) → 0 < length names → params ≡ telling (codes "parttype") kind ∷ []
    → joined ≡ join_with_byte 0 names → more ≡ telling (codes "params") joined → new ≡ params ++ more ∷ []
    → new ≡ telling (codes "parttype") kind ∷ unknown_params names
both_params {A} kind names params new joined more some first joined_is last is =
    is ∙ rw (first, last, joined_is)
    (ap (λ (ps : List (Param A)). telling (codes "parttype") kind ∷ ps) (sym (some_unknown names some)))

pub not_empty : (names : List (List ℕ)) (test : Bool) → test ≡ (length names == 0) → test ≡ false
    → 0 < length names
not_empty names test is_test f = grind (arith, nat_tests)
