-- What is counted of a body that is read.
use Rattle.std.proofs.Common.{ℕ, ◌≡◌, ◌+◌, ◌++◌, List, length, take, drop, true, nat_eq, sym, ap, ◌∙◌, arith}
use Rattle.std.proofs.lemmas.Grind.{common_steps}
use Rattle.std.proofs.lemmas.List.{take-append-drop, drop-take}
use Rattle.std.specs.List.{starts_with}
use Rattle.std.specs.Cmp.{unsigned_Decides}
use Rattle.std.specs.Cmp.Lexicographic.{pointwise_decides}

--- With the next bytes of a body its front is as much longer.
pub longer : (body bytes : List ℕ) (count : ℕ) → starts_with nat_eq (drop count body) bytes ≡ true
    → take (count + length bytes) body ≡ take count body ++ bytes
longer body bytes count h =
    let more = take (count + length bytes) body in
    let next : bytes ≡ take (length bytes) (drop count body) = (pointwise_decides unsigned_Decides bytes _).0 h in
    let front : take count more ≡ take count body = grind (arith, common_steps) in
    sym (take-append-drop count more) ∙ ap (λ l. l ++ drop count more) front
    ∙ ap (λ l. take count body ++ l) (drop-take count (length bytes) body ∙ sym next)
