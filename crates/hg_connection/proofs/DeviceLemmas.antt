-- Lemmas for callers: what is told grows, and grows again.
use Rattle.std.proofs.Common.{List, [], ◌++◌, sym, ◌∙◌, ap, append_assoc, Option, Some, None}
use Rattle.std.proofs.lemmas.List.{append-nil}
use Rattle.hg_connection.specs.Devices.{TellsMore}

pub Adds-nil : {X : Type 0} (a : Option (List X)) → TellsMore a a []
Adds-nil None = tt
Adds-nil (Some x) = sym (append-nil x)

pub Adds-trans : {X : Type 0} (a b c : Option (List X)) (xs ys : List X) → TellsMore a b xs → TellsMore b c ys
    → TellsMore a c (xs ++ ys)
Adds-trans None b c xs ys p q = tt
Adds-trans (Some x) None c xs ys p q = absurd p
Adds-trans (Some x) (Some y) None xs ys p q = absurd q
Adds-trans (Some x) (Some y) (Some z) xs ys p q = q ∙ ap (λ l. l ++ ys) p ∙ append_assoc x xs ys
