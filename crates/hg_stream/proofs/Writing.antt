-- Parts that are written one after another.
use Rattle.std.proofs.Common.{◌≡◌, ℕ, ◌+◌, ◌<◌, List, [], ◌∷◌, ◌++◌, length, take, get_or, sym, ap, ◌∙◌}
use Rattle.std.proofs.Common.{append_assoc, arith}
use Rattle.std.proofs.lemmas.List.{append-nil, length-take, take_more}
use Rattle.hg_types.specs.declared.part.Part.{Part}
use Rattle.hg_stream.specs.Written.{part_bytes, parts_bytes}

-- one more part
pub parts_more : {A : Type 0} (place : ℕ) (parts : List (Part A)) (part : Part A)
    → parts_bytes place (parts ++ part ∷ []) ≡ parts_bytes place parts
    ++ part_bytes (place + length parts) part
parts_more place [] part =
    append-nil (part_bytes place part)
    ∙ ap (λ (n : ℕ). part_bytes n part) (let e : place ≡ place + 0 = omega arith in e)
parts_more place (first ∷ parts) part =
    ap (λ (x : List ℕ). part_bytes place first ++ x) (parts_more (place + 1) parts part)
    ∙ sym (append_assoc (part_bytes place first) (parts_bytes (place + 1) parts)
    (part_bytes ((place + 1) + length parts) part))
    ∙ ap (λ (n : ℕ). (part_bytes place first ++ parts_bytes (place + 1) parts) ++ part_bytes n part)
    (let e : (place + 1) + length parts ≡ place + length (first ∷ parts) = omega arith in e)

-- the part at a place was written after those before it
pub one_more : {A : Type 0} (out new front : List ℕ) (parts : List (Part A)) (place : ℕ) (part : Part A)
    → out ≡ front ++ parts_bytes 0 (take place parts) → place < length parts → part ≡ get_or parts place part
    → new ≡ out ++ part_bytes place part → new ≡ front ++ parts_bytes 0 (take (place + 1) parts)
one_more out new front parts place part before within here written =
    let front_is : take (place + 1) parts ≡ take place parts ++ part ∷ [] = take_more parts place part within
    ∙ ap (λ p. take place parts ++ p ∷ []) (sym here) in
    let number : 0 + length (take place parts) ≡ place = omega (arith, length-take place parts, within) in
    let bytes : parts_bytes 0 (take (place + 1) parts) ≡ parts_bytes 0 (take place parts)
    ++ part_bytes place part =
    ap (parts_bytes 0) front_is ∙ parts_more 0 (take place parts) part
    ∙ ap (λ (n : ℕ). parts_bytes 0 (take place parts) ++ part_bytes n part) number in
    written ∙ ap (λ (x : List ℕ). x ++ part_bytes place part) before
    ∙ append_assoc front (parts_bytes 0 (take place parts)) (part_bytes place part)
    ∙ ap (λ (x : List ℕ). front ++ x) (sym bytes)
