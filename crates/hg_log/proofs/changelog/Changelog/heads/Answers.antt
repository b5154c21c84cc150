use Rattle.std.proofs.Common.{rules, ◌≡◌, ◌≢◌, [], ◌∷◌, length, slice_index_or, sym, ap, ◌∙◌, arith}
use Rattle.std.proofs.lemmas.Bool.{eqb-true, eqb-false}
use Rattle.std.proofs.lemmas.List.Elements.{Contains-get_or}
use Rattle.hg_types.specs.NullId.{null_id}
use Rattle.hg_log.specs.Heads.{ids}
use Rattle.hg_log.specs.code.Inside.{rows_of}
use Rattle.hg_log.proofs.HeadLemmas.{null_node, ids_none, ids_more, ids_all, are_heads, no_heads}
use Rattle.hg_log.proofs.HeadValues.{heads_value}
use Rattle.hg_log.proofs.changelog.Changelog.heads.Goals as goal

pub returns-then-is_empty : goal.returns-then-is_empty
returns-then-is_empty g c =
    let none : length c.childless-childless.result.now ≡ 0 = eqb-true _ 0 (sym c.is_empty.ensures
    ∙ c.if-is_empty.true) in
    let items : c.push.new.self.items ≡ null_node ∷ [] = search rules in
    let heads : ids c.from_vec.result ≡ null_id ∷ [] = ap ids (c.from_vec.ensures ∙ items) in
    let rows = rows_of c.self.inside.rows.entries in
    let are = no_heads rows c.self.inside.graph c.self.inside.limits c.self.invariant
    c.childless-childless.result.now c.childless-childless.ensures none in
    let value = heads_value rows c.self.invariant.lawful (null_id ∷ []) are in
    record {
      heads = rw (← c.self.view_is, heads) are;
      value = rw (← c.self.view_is, heads) value;
      ascending = rw (c.from_vec.ensures, items) (λ k d low high. absurd (omega (arith, high)));
    }

pub loop-rev-init : goal.loop-rev-init
loop-rev-init g c = rw c.new-heads.ensures.items (ids_none c.args.self.now.rows [])

pub node-requires : goal.node-requires
node-requires g c =
    let revs = c.childless-childless.result.now in
    let at = (c.childless-childless.ensures.each (slice_index_or revs c.loop-rev.rev-index 0)).0
    (Contains-get_or revs c.loop-rev.rev-index 0 c.loop-rev-test.true) in
    rw (← c.self.view_is) (omega (arith, at.0, c.self.invariant.numbered.as_long))

pub loop-rev-preserved : goal.loop-rev-preserved
loop-rev-preserved g c =
    rw c.in_ok-push-2.ensures.items
    (ids_more c.args.self.now.rows c.childless-childless.result.now c.loop-rev.rev-index
    c.loop-rev.heads.items c.node.result c.loop-rev.invariant c.loop-rev-test.true c.node.ensures)

pub returns : goal.returns
returns g c =
    let revs = c.childless-childless.result.now in
    let some : length revs ≢ 0 = eqb-false (length revs) 0 (sym c.is_empty.ensures ∙ c.if-is_empty.false) in
    let are = ids_all c.args.self.now.rows revs c.loop-rev.rev-index c.loop-rev.heads.items
    c.loop-rev-test.false c.loop-rev.invariant in
    let shown = rw (← c.self.view_is) at are in
    let rows = rows_of c.self.inside.rows.entries in
    let heads = are_heads rows c.self.inside.graph c.self.inside.limits c.self.invariant revs
    c.childless-childless.ensures
    c.loop-rev.heads.items c.sort_unstable.new.self.items shown c.sort_unstable.ensures.permutation
    c.sort_unstable.ensures.sorted some in
    let value = heads_value rows c.self.invariant.lawful (ids c.sort_unstable.new.self.items) heads in
    record {
      heads = rw (← c.self.view_is, c.from_vec-2.ensures) heads;
      value = rw (← c.self.view_is, c.from_vec-2.ensures) value;
      ascending = rw c.from_vec-2.ensures c.sort_unstable.ensures.sorted;
    }
