use Rattle.std.proofs.Common.{◌≡◌, ◌++◌, List, map, ℕ}
use Rattle.hg_wireproto.proofs.branches.branches_of.Given as goal

-- the branches so far, and those that are left
abbrev pub invariant-loop-name : goal.invariant-loop-name
invariant-loop-name g l =
    let shown : List (List ℕ × List ℕ) = map (λ b. (b.name.items, b.revs.items)) l.branches.items in
    let left : List (List ℕ × List ℕ) = map (λ e. (e.0.items, e.1.items)) l.name-iterator in
    let all : List (List ℕ × List ℕ) = map (λ e. (e.0.items, e.1.items)) l.initial.name-iterator in
    shown ++ left ≡ all
