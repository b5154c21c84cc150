-- A text, or its length, is noted.
use Rattle.std.proofs.Common.{◌≡◌, ℕ, Bool, true, false, cond, List, Option, Some, None, refl, sym, ap, ◌∙◌}
use Rattle.std.proofs.Math.Path.{fun_ext}
use Rattle.std.specs.Prelude.{bytes_eq, is_some}
use Rattle.std.specs.Ordering.{is_eq, nat_cmp}
use Rattle.std.specs.Cmp.Lexicographic.{slice_cmp}
use Rattle.std.proofs.lemmas.Map.Text.{is_eq-slice_cmp}
use Rattle.std.proofs.lemmas.Slice.Eq.{bytes_eq-Decides}
use Rattle.hg_types.specs.declared.node.Node.{Node}
use Rattle.hg_sizes.specs.Weights.{first_of, noted}

one_more : {X : Type 0} (b : Bool) (found : Option X) (x : X) → (b ≡ true → found ≡ None) →
    cond b (Some x) found ≡ first_of found (cond b (Some x) None)
one_more true None x none = refl
one_more true (Some y) x none = let wrong = none refl in cc
one_more false None x none = refl
one_more false (Some y) x none = refl

same_found : {X : Type 0} (f : Node → Option X) (node q : Node) → bytes_eq node.0 q.0 ≡ true → f node ≡ None → f q ≡ None
same_found f node q same none =
    ap (λ (bytes : List ℕ). f (record { 0 = bytes })) (sym ((bytes_eq-Decides node.0 q.0).0 same)) ∙ none

-- it was not noted before
pub noted_first : {X : Type 0} (f g : Node → Option X) (node : Node) (x : X) →
    ((q : Node) → g q ≡ cond (is_eq (slice_cmp nat_cmp node.0 q.0)) (Some x) (f q)) → f node ≡ None → g ≡ noted f node x
noted_first f g node x updates none = fun_ext (λ q. updates q
    ∙ (ap (λ (b : Bool). cond b (Some x) (f q)) (is_eq-slice_cmp node.0 q.0)
    ∙ one_more (bytes_eq node.0 q.0) (f q) x (λ same. same_found f node q same none)))

-- what is not there
pub is_none : {X : Type 0} (found : Option X) (b : Bool) → b ≡ is_some found → b ≡ false → found ≡ None
is_none None b is none = refl
is_none (Some x) b is none = cc

-- it was noted before
pub noted_again : {X : Type 0} (f : Node → Option X) (node : Node) (x : X) (b : Bool) → b ≡ is_some (f node) → b ≡ true →
    f ≡ noted f node x
noted_again {X} f node x b found is = fun_ext (λ q. by q (f q) refl (bytes_eq node.0 q.0) refl)
  where
    lacks : (q : Node) → f q ≡ None → bytes_eq node.0 q.0 ≡ true → f node ≡ None
    lacks q none same =
        ap (λ (bytes : List ℕ). f (record { 0 = bytes })) ((bytes_eq-Decides node.0 q.0).0 same) ∙ none

    by : (q : Node) (r : Option X) → f q ≡ r → (s : Bool) → bytes_eq node.0 q.0 ≡ s →
        r ≡ first_of r (cond s (Some x) None)
    by q (Some y) e s same = refl
    by q None e false same = refl
    by q None e true same =
        let wrong : true ≡ false = sym is ∙ (found ∙ ap is_some (lacks q e same)) in
        cc
