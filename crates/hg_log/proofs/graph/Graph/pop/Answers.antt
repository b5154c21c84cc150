use Rattle.std.proofs.Common.{◌≡◌, ◌-◌, length, slice_index, ap, ◌∙◌, arith}
use Rattle.std.proofs.lemmas.List.{length_push}
use Rattle.hg_log.proofs.Counted.{counted_popped, last_childless, some_first, some_second, first, second}
use Rattle.hg_log.proofs.graph.Graph.pop.Goals as goal

pub pop-requires-in-Some-clause-childless : goal.pop-requires-in-Some-clause-childless
pop-requires-in-Some-clause-childless g c =
    let counted = rw c.in-Some.ensures.some at c.self.invariant in
    let len : length c.self.inside.children - 1 ≡ length c.pop.new.self = omega
    (arith, counted.as_long, length_push c.pop.new.self c.in-Some.parents) in
    ap (slice_index c.self.inside.children) len
    ∙ last_childless c.pop.new.self c.self.inside.children c.in-Some.parents counted

pub drop_child-requires-clause-within : goal.drop_child-requires-clause-within
drop_child-requires-clause-within g c =
    let counted = rw c.in-Some.ensures.some at c.self.invariant in
    let len : length c.self.inside.children - 1 ≡ length c.pop.new.self = omega
    (arith, counted.as_long, length_push c.pop.new.self c.in-Some.parents) in
    rw (c.pop-in-Some.ensures, len)
    (first c.pop.new.self c.self.inside.children c.in-Some.parents counted)

pub drop_child-requires-clause-some : goal.drop_child-requires-clause-some
drop_child-requires-clause-some g c =
    let counted = rw c.in-Some.ensures.some at c.self.invariant in
    let len : length c.self.inside.children - 1 ≡ length c.pop.new.self = omega
    (arith, counted.as_long, length_push c.pop.new.self c.in-Some.parents) in
    rw (c.pop-in-Some.ensures, len)
    (some_first c.pop.new.self c.self.inside.children c.in-Some.parents counted)

pub drop_child-requires-in-Some-clause-within : goal.drop_child-requires-in-Some-clause-within
drop_child-requires-in-Some-clause-within g c =
    let counted = rw c.in-Some.ensures.some at c.self.invariant in
    let len : length c.self.inside.children - 1 ≡ length c.pop.new.self = omega
    (arith, counted.as_long, length_push c.pop.new.self c.in-Some.parents) in
    rw (c.drop_child.ensures, c.pop-in-Some.ensures, len)
    (second c.pop.new.self c.self.inside.children c.in-Some.parents counted)

pub drop_child-requires-in-Some-clause-some : goal.drop_child-requires-in-Some-clause-some
drop_child-requires-in-Some-clause-some g c =
    let counted = rw c.in-Some.ensures.some at c.self.invariant in
    let len : length c.self.inside.children - 1 ≡ length c.pop.new.self = omega
    (arith, counted.as_long, length_push c.pop.new.self c.in-Some.parents) in
    rw (c.drop_child.ensures, c.pop-in-Some.ensures, len)
    (some_second c.pop.new.self c.self.inside.children c.in-Some.parents counted)

pub invariant_of-self : goal.invariant_of-self
invariant_of-self g c =
    let counted = rw c.in-Some.ensures.some at c.self.invariant in
    let len : length c.self.inside.children - 1 ≡ length c.pop.new.self = omega
    (arith, counted.as_long, length_push c.pop.new.self c.in-Some.parents) in
    rw (c.drop_child-in-Some.ensures, c.drop_child.ensures, c.pop-in-Some.ensures, len)
    (counted_popped c.pop.new.self c.self.inside.children c.in-Some.parents counted)
