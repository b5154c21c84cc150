use Rattle.std.proofs.Common.{rules, ◌≡◌, subst, IsPermutation}
use Rattle.std.specs.List.{IsAllAdjacentAnswer}
use Rattle.std.proofs.lemmas.Fn.{always_returns_same}
use Rattle.hg_checks.proofs.Distinct.{differ, adjacent}
use Rattle.hg_checks.proofs.heads.are_distinct.Goals as goal

pub returns : goal.returns
returns g c =
    let ids = c.args.ids.now in
    let sorted = c.sort_unstable.new.self.items in
    let answer = c.is_sorted_by.ensures.cases differ
    (always_returns_same _ _ _ (λ a r h called. (search rules, search rules))) in
    adjacent ids sorted c.is_sorted_by.result
    (subst (λ made. IsPermutation made sorted) c.in_ok-sorted.ensures.items
    c.sort_unstable.ensures.permutation) c.sort_unstable.ensures.sorted
    (subst (λ seen. IsAllAdjacentAnswer (λ x y b. b ≡ differ x y) seen c.is_sorted_by.result)
    c.as_slice.ensures.value answer)
