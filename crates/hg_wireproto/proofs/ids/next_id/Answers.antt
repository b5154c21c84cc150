use Rattle.std.proofs.Common.{subst}
use Rattle.std.specs.BTreeSet.{IsKeyRangeOf}
use Rattle.std.specs.declared.ops.Bound.TheVariants.{Unbounded}
use Rattle.hg_types.specs.contracts.node.NodeOrd.TheImpl as ord
use Rattle.hg_wireproto.proofs.OrderedIds.{none_next, some_next}
use Rattle.hg_wireproto.proofs.ids.next_id.Goals as goal

pub returns-in-Some : goal.returns-in-Some
returns-in-Some g c =
    some_next c.args.ids.now c.args.start c.in-Some.node.now c.next.new.self
    (subst (IsKeyRangeOf ord.cmp-value.it c.args.start Unbounded c.args.ids.now) c.in-Some.ensures.steps
    (c.range.ensures.in_range tt))

pub returns-in-None : goal.returns-in-None
returns-in-None g c =
    none_next c.args.ids.now c.args.start
    (subst (IsKeyRangeOf ord.cmp-value.it c.args.start Unbounded c.args.ids.now) c.in-None.ensures.steps.0
    (c.range.ensures.in_range tt))
