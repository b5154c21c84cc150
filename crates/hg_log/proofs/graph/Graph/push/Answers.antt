use Rattle.std.proofs.Common.{rules, ◌≡◌, ◌+◌, ◌<◌, ◌^◌, [], ◌∷◌, ◌++◌, length}
use Rattle.hg_log.specs.code.Graph.{AreEarlier}
use Rattle.hg_log.proofs.Counted.{counted_pushed, few_first, few_second}
use Rattle.hg_log.proofs.graph.Graph.push.Goals as goal

pub add_child-requires-clause-few : goal.add_child-requires-clause-few
add_child-requires-clause-few g c =
    let few : length c.self.inside.family + 1 < 2 ^ 31 = rw c.self.view_is c.requires.few in
    let early : AreEarlier (length c.self.inside.family) c.args.parents =
    rw c.self.view_is c.requires.earlier in
    rw c.in_ok-push.ensures.ok
    (few_first c.self.inside.family c.self.inside.children c.args.parents.p1 c.self.invariant few
    early.0)

pub add_child-requires-2-clause-few : goal.add_child-requires-2-clause-few
add_child-requires-2-clause-few g c =
    let few : length c.self.inside.family + 1 < 2 ^ 31 = rw c.self.view_is c.requires.few in
    let early : AreEarlier (length c.self.inside.family) c.args.parents =
    rw c.self.view_is c.requires.earlier in
    rw (c.add_child.ensures, c.in_ok-push.ensures.ok)
    (few_second c.self.inside.family c.self.inside.children c.args.parents.p1 c.args.parents.p2
    c.self.invariant few early.0 early.1)

pub invariant_of-self-2 : goal.invariant_of-self-2
invariant_of-self-2 g c =
    let few : length c.self.inside.family + 1 < 2 ^ 31 = rw c.self.view_is c.requires.few in
    let early : AreEarlier (length c.self.inside.family) c.args.parents =
    rw c.self.view_is c.requires.earlier in
    let items : c.push-2.new.self ≡ c.self.inside.family ++ c.args.parents ∷ [] = search rules in
    rw (items, c.add_child-2.ensures, c.add_child.ensures, c.in_ok-push.ensures.ok)
    (counted_pushed c.self.inside.family c.self.inside.children c.args.parents c.self.invariant few
    early)
