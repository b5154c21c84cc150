use Rattle.std.proofs.Common.{◌≡◌, ◌<◌, length, slice_index, sym, ◌∙◌}
use Rattle.std.proofs.lemmas.List.{get_or_read}
use Rattle.hg_log.proofs.Kept.{kept_more, kept_left}
use Rattle.hg_log.proofs.child_counts.ChildCounts.add_child.Goals as goal
use Rattle.hg_log.proofs.child_counts.ChildCounts.add_child.Goals.{then-count-eq0, else-count-eq0}

pub invariant_of-self : goal.invariant_of-self
invariant_of-self g c =
    let inside = c.self.inside in
    let within : c.in-Some.row < length inside.counts.items = rw (c.self.view_is)
    (rw c.in-Some.is at c.requires.within) in
    let count : c.index-count.result.now ≡ slice_index inside.counts.items c.in-Some.row =
    get_or_read inside.counts.items c.in-Some.row _ within c.index-count.ensures 0 in
    elim c.if-count-eq0.branch [
      | then-count-eq0 w ↦ rw (w.self-inside-is, count)
          (kept_left inside.counts.items inside.order.rows.items inside.order.places.items _ _
          inside.childless c.in-Some.row c.self.invariant within
          (sym count ∙ w.if-count-eq0.true) (rw w.place.ensures at w.swap.ensures))
      | else-count-eq0 w ↦ rw (w.self-inside-is, count)
          (kept_more inside.counts.items inside.order.rows.items inside.order.places.items inside.childless
          c.in-Some.row c.self.invariant within
          (λ none. w.if-count-eq0.false (count ∙ none)))
    ]
