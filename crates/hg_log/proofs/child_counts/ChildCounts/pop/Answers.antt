use Rattle.std.proofs.Common.{◌≡◌, ◌-◌, ◌<◌, length, slice_index, ap, ◌∙◌, arith}
use Rattle.hg_log.proofs.Kept.{kept_popped}
use Rattle.hg_log.proofs.child_counts.ChildCounts.pop.Goals as goal

pub invariant_of-self : goal.invariant_of-self
invariant_of-self g c =
    let inside = c.self.inside in
    let len : c.len-last.result ≡ length inside.counts.items = omega
    (arith, c.len-last.ensures, inside.counts.ok) in
    let some : 0 < length inside.counts.items = rw c.self.view_is c.requires.some in
    let none : slice_index inside.counts.items (length inside.counts.items - 1) ≡ 0 =
    rw c.self.view_is c.requires.childless in
    let last : slice_index inside.counts.items (c.len-last.result - 1) ≡ 0 =
    ap (λ n. slice_index inside.counts.items (n - 1)) len ∙ none in
    rw (c.truncate-2.ensures.items, c.truncate.ensures.rows, c.truncate.ensures.places)
    (kept_popped inside.counts.items inside.order.rows.items inside.order.places.items _ _ _ _
    inside.childless (c.len-last.result - 1) c.self.invariant (omega arith) last
    (rw c.place.ensures at c.swap.ensures) c.swap-2.ensures)
