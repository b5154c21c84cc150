use Rattle.std.proofs.Common.{rules, ◌≡◌, ℕ, List, Option, ◌+◌, ◌<◌, ◌^◌, [], ◌∷◌, ◌++◌, length, None, refl, arith, ap, ◌∙◌}
use Rattle.hg_log.specs.code.Graph.{AreEarlier}
use Rattle.hg_log.specs.code.Family.{child_at}
use Rattle.hg_log.proofs.Linked.{linked_pushed, linked_same}
use Rattle.hg_log.proofs.family.Family.push.Goals as goal

pub invariant_of-self-2 : goal.invariant_of-self-2
invariant_of-self-2 g c =
    let inside = c.self.inside in
    let few : length inside.parents.items + 1 < 2 ^ 31 = rw c.self.view_is c.requires.few in
    let early : AreEarlier (length inside.parents.items) c.args.parents =
    rw c.self.view_is c.requires.earlier in
    let row : c.len-child.result ≡ length inside.parents.items = omega
    (arith, c.len-child.ensures, inside.parents.ok) in
    let more : c.push-2.new.self.items ≡ inside.newest.items ++ None ∷ [] = search rules in
    let first : c.newest_child.result ≡ child_at inside.newest.items c.args.parents.p1 =
    c.newest_child.ensures ∙ ap (λ (xs : List (Option ℕ)). child_at xs c.args.parents.p1)
    c.as_slice.ensures.value in
    let second : c.newest_child-2.result ≡ child_at inside.newest.items c.args.parents.p2 =
    c.newest_child-2.ensures ∙ ap (λ (xs : List (Option ℕ)). child_at xs c.args.parents.p2)
    c.as_slice-2.ensures.value in
    let was : c.push.new.self.items ≡ inside.older.items
    ++ record { p1 = c.newest_child.result; p2 = c.newest_child-2.result } ∷ [] = search rules in
    linked_same _ _ _ _ _ _ (search rules)
    (c.put_child-2.ensures
    ∙ rw (c.put_child.ensures, more, c.to-3.ensures, c.to-4.ensures, row) refl)
    (was ∙ rw (first, second) refl)
    (linked_pushed inside.parents.items inside.newest.items inside.older.items c.self.invariant
    c.args.parents few early)
