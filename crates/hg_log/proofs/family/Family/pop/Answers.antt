use Rattle.std.proofs.Common.{◌≡◌, ◌<◌, length, arith, slice_get, Some, refl, sym, ap, ◌∙◌}
use Rattle.std.proofs.lemmas.List.{length_push}
use Rattle.std.proofs.lemmas.Option.{slice_get_read}
use Rattle.hg_log.proofs.Linked.{linked_popped, popped_first, popped_second}
use Rattle.hg_log.proofs.family.Family.pop.Goals as goal

pub put_child-requires : goal.put_child-requires
put_child-requires g c =
    let inside = c.self.inside in
    let graph = c.pop.new.self.items in
    let linked = rw c.in_ok-links.ensures.items at c.self.invariant in
    let last : c.len-last.result ≡ length graph = omega (arith, c.len-last.ensures, c.pop.new.self.ok) in
    let within : c.len-last.result < length inside.older.items = omega
    (arith, last, linked.older_for, length_push graph c.in_ok-links.links) in
    let gone : slice_get inside.older.items (length graph) ≡ Some c.index.result.now =
    ap (slice_get inside.older.items) (sym last)
    ∙ slice_get_read inside.older.items (length inside.older.items) c.len-last.result _ refl within
    c.index.ensures in
    rw (c.rows-parents.ensures, c.truncate-2.ensures.items, last) (popped_first graph c.in_ok-links.links
    c.index.result.now inside.newest.items inside.older.items linked gone)

pub put_child-requires-2 : goal.put_child-requires-2
put_child-requires-2 g c =
    let inside = c.self.inside in
    let graph = c.pop.new.self.items in
    let linked = rw c.in_ok-links.ensures.items at c.self.invariant in
    let last : c.len-last.result ≡ length graph = omega (arith, c.len-last.ensures, c.pop.new.self.ok) in
    let within : c.len-last.result < length inside.older.items = omega
    (arith, last, linked.older_for, length_push graph c.in_ok-links.links) in
    let gone : slice_get inside.older.items (length graph) ≡ Some c.index.result.now =
    ap (slice_get inside.older.items) (sym last)
    ∙ slice_get_read inside.older.items (length inside.older.items) c.len-last.result _ refl within
    c.index.ensures in
    rw (c.put_child.ensures, c.rows-parents.ensures, c.copies-first.ensures.first, c.truncate-2.ensures.items, last) (popped_second graph c.in_ok-links.links
    c.index.result.now inside.newest.items inside.older.items linked gone)

pub invariant_of-self-2 : goal.invariant_of-self-2
invariant_of-self-2 g c =
    let inside = c.self.inside in
    let graph = c.pop.new.self.items in
    let linked = rw c.in_ok-links.ensures.items at c.self.invariant in
    let last : c.len-last.result ≡ length graph = omega (arith, c.len-last.ensures, c.pop.new.self.ok) in
    let within : c.len-last.result < length inside.older.items = omega
    (arith, last, linked.older_for, length_push graph c.in_ok-links.links) in
    let gone : slice_get inside.older.items (length graph) ≡ Some c.index.result.now =
    ap (slice_get inside.older.items) (sym last)
    ∙ slice_get_read inside.older.items (length inside.older.items) c.len-last.result _ refl within
    c.index.ensures in
    rw (
      c.put_child-2.ensures,
      c.put_child.ensures,
      c.rows-parents.ensures,
      c.copies-first.ensures.first,
      c.copies-first.ensures.second,
      c.truncate-2.ensures.items,
      c.truncate.ensures.items,
      last,
    )
    (linked_popped graph c.in_ok-links.links
    c.index.result.now inside.newest.items inside.older.items linked gone)
