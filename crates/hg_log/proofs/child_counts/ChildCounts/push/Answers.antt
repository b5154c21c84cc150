use Rattle.std.proofs.Common.{rules, ◌≡◌, ◌+◌, ◌<◌, ◌^◌, [], ◌∷◌, ◌++◌, length, arith}
use Rattle.hg_log.proofs.Kept.{kept_new}
use Rattle.hg_log.proofs.child_counts.ChildCounts.push.Goals as goal

pub invariant_of-self-2 : goal.invariant_of-self-2
invariant_of-self-2 g c =
    let inside = c.self.inside in
    let kept = c.self.invariant in
    let few : length inside.counts.items + 1 < 2 ^ 32 = rw c.self.view_is c.requires in
    let row : c.len-row.result ≡ length inside.order.rows.items = omega
    (arith, c.len-row.ensures, kept.as_long, inside.counts.ok) in
    let moved = rw (c.in_ok-push.ensures.rows, c.in_ok-push.ensures.places, row) at c.swap.ensures in
    let items : c.push-2.new.self.items ≡ inside.counts.items ++ 0 ∷ [] = search rules in
    rw items (kept_new inside.counts.items inside.order.rows.items inside.order.places.items _ _
    inside.childless kept few moved)
