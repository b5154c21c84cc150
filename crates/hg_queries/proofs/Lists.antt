-- Lists.
use Rattle.std.proofs.Common.{◌≡◌, ℕ, ◌+◌, ◌<◌, List, [], ◌∷◌, ◌++◌, sym, subst, take}
use Rattle.std.specs.List.{AllZip}
use Rattle.std.proofs.Common.{length, ap, ◌∙◌}
use Rattle.std.specs.Prelude.{get_or}
use Rattle.std.proofs.lemmas.List.{take_more}

-- what holds place by place holds with one more item of each
pub AllZip_more : {X Y : Type 0} (R : X → Y → Type 0) (xs : List X) (ys : List Y) (x : X) (y : Y) →
    AllZip R xs ys → R x y → AllZip R (xs ++ x ∷ []) (ys ++ y ∷ [])
AllZip_more R [] [] x y h r = (r, tt)
AllZip_more R [] (b ∷ ys) x y h r = absurd h
AllZip_more R (a ∷ xs) [] x y h r = absurd h
AllZip_more R (a ∷ xs) (b ∷ ys) x y h r = (h.0, AllZip_more R xs ys x y h.1 r)

pub AllZip_next : {X Y : Type 0} (R : X → Y → Type 0) (xs : List X) (ys : List Y) (i : ℕ) (x : X) (y : Y) →
    i < length xs → x ≡ get_or xs i x → AllZip R (take i xs) ys → R x y →
    AllZip R (take (i + 1) xs) (ys ++ y ∷ [])
AllZip_next R xs ys i x y lt is h r =
    subst (λ l. AllZip R l (ys ++ y ∷ [])) (ap (λ z. take i xs ++ z ∷ []) is ∙ sym (take_more xs i x lt))
    (AllZip_more R (take i xs) ys x y h r)

-- what holds place by place of two lists, through a third
pub AllZip_through : {X Y Z : Type 0} (R : X → Y → Type 0) (S : Y → Z → Type 0) (T : X → Z → Type 0)
    → ((x : X) (y : Y) (z : Z) → R x y → S y z → T x z) → (xs : List X) (ys : List Y) (zs : List Z)
    → AllZip R xs ys → AllZip S ys zs → AllZip T xs zs
AllZip_through R S T through [] [] [] r s = tt
AllZip_through R S T through [] [] (z ∷ zs) r s = absurd s
AllZip_through R S T through [] (y ∷ ys) zs r s = absurd r
AllZip_through R S T through (x ∷ xs) [] zs r s = absurd r
AllZip_through R S T through (x ∷ xs) (y ∷ ys) [] r s = absurd s
AllZip_through R S T through (x ∷ xs) (y ∷ ys) (z ∷ zs) r s =
    (through x y z r.0 s.0, AllZip_through R S T through xs ys zs r.1 s.1)
