-- Bytes that grow at their end.
use Rattle.std.proofs.Common.{◌≡◌, ℕ, List, [], ◌++◌, length, take, Result, Ok, Err, OnErr, is_err, true}
use Rattle.std.proofs.Common.{refl, sym, ap, ◌∙◌, append_assoc}
use Rattle.std.proofs.lemmas.List.{append-nil, take_at}
use Rattle.hg_params.specs.Writing.{IsGrown}

pub on_err : {T E : Type 0} (r : Result T E) (P : Type 0) → P → OnErr r P
on_err (Ok x) P p = tt
on_err (Err e) P p = p

pub from_err : {T E : Type 0} (r : Result T E) (P : Type 0) → is_err r ≡ true → OnErr r P → P
from_err (Ok x) P e p = absurd cc
from_err (Err d) P e p = p

pub grown_none : (a b : List ℕ) → b ≡ a → IsGrown a b
grown_none a b e = ([], e ∙ sym (append-nil a))

pub grown_same : (a b c : List ℕ) → IsGrown a b → c ≡ b → IsGrown a c
grown_same a b c g e = (g.0, e ∙ g.1)

pub grown_then : (a b c : List ℕ) → IsGrown a b → IsGrown b c → IsGrown a c
grown_then a b c g h = (g.0 ++ h.0, h.1 ∙ ap (λ (x : List ℕ). x ++ h.0) g.1 ∙ append_assoc a g.0 h.0)

pub grown_more : (a b c more : List ℕ) → IsGrown a b → c ≡ b ++ more → IsGrown a c
grown_more a b c more g e = grown_then a b c g (more, e)

pub cut_back : (a b : List ℕ) → IsGrown a b → take (length a) b ≡ a
cut_back a b g = ap (take (length a)) g.1 ∙ take_at a g.0 (length a) refl
