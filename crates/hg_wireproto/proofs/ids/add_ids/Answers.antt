use Rattle.std.proofs.Common.{List, arith, subst}
use Rattle.std.proofs.lemmas.List.{take_all}
use Rattle.hg_log.specs.Changeset.{Changeset}
use Rattle.hg_wireproto.specs.code.Ids.{AreIds}
use Rattle.hg_wireproto.proofs.HeadIds.{put_is}
use Rattle.hg_wireproto.proofs.OrderedIds.{more_ids}
use Rattle.hg_wireproto.proofs.ids.add_ids.Goals as goal

pub loop-rev-preserved : goal.loop-rev-preserved
loop-rev-preserved g c = (
  omega (arith, c.loop-rev-test.true, c.len-rev-end.ensures.len),
  more_ids c.args.copied.now.rows c.loop-rev.rev c.node-node.result c.loop-rev.ids.keys c.insert.new.self.keys
      c.node-node.ensures c.has_length.ensures c.loop-rev.invariant.1
      (put_is c.loop-rev.ids c.insert.new.self c.node-node.result c.in_ok-insert.ensures.updates.0),
)

pub returns : goal.returns
returns g c =
    let rows = c.args.copied.now.rows in
    subst (λ (rs : List Changeset). AreIds rs c.loop-rev.ids.keys)
    (take_all c.loop-rev.rev rows (omega (arith, c.loop-rev-test.false, c.len-rev-end.ensures.len))) c.loop-rev.invariant.1
