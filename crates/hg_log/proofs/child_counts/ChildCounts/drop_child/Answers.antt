use Rattle.std.proofs.Common.{◌≡◌, ◌≢◌, ◌<◌, length, slice_index, sym, ◌∙◌, arith}
use Rattle.std.proofs.lemmas.List.{get_or_read}
use Rattle.hg_log.proofs.Kept.{kept_fewer, kept_joined}
use Rattle.hg_log.proofs.child_counts.ChildCounts.drop_child.Goals as goal
use Rattle.hg_log.proofs.child_counts.ChildCounts.drop_child.Goals.{then-count-eq1, else-count-eq1}

pub invariant_of-self : goal.invariant_of-self
invariant_of-self g c =
    let inside = c.self.inside in
    let within : c.in-Some.row < length inside.counts.items = rw (c.self.view_is)
    (rw c.in-Some.is at c.requires.within) in
    let some : 0 < slice_index inside.counts.items c.in-Some.row = rw (c.self.view_is)
    (rw c.in-Some.is at c.requires.some) in
    let count : c.index-count.result.now ≡ slice_index inside.counts.items c.in-Some.row =
    get_or_read inside.counts.items c.in-Some.row _ within c.index-count.ensures 0 in
    elim c.if-count-eq1.branch [
      | then-count-eq1 w ↦ rw (w.self-inside-is, count)
          (kept_joined inside.counts.items inside.order.rows.items inside.order.places.items _ _
          inside.childless c.in-Some.row c.self.invariant within
          (sym count ∙ w.if-count-eq1.true) (rw w.place.ensures at w.swap.ensures))
      | else-count-eq1 w ↦ rw (w.self-inside-is, count)
          (kept_fewer inside.counts.items inside.order.rows.items inside.order.places.items inside.childless
          c.in-Some.row c.self.invariant within
          (let apart : slice_index inside.counts.items c.in-Some.row ≢ 1 = λ one. w.if-count-eq1.false (count
          ∙ one) in omega (arith, some, apart)))
    ]
