use Rattle.std.proofs.Common.{List, arith, subst}
use Rattle.std.proofs.lemmas.List.{take_all}
use Rattle.hg_log.specs.Changeset.{Changeset}
use Rattle.hg_wireproto.specs.code.HeadIds.{AreHeadIds, AreLeft}
use Rattle.hg_wireproto.proofs.HeadIds.{one_came, put_is}
use Rattle.hg_wireproto.proofs.head_ids.bring_up.Goals as goal

pub loop-rev-preserved : goal.loop-rev-preserved
loop-rev-preserved g c =
    let rows = c.args.copied.now.rows in
    let rev = c.loop-rev.rev in (
      omega (arith, c.loop-rev-test.true, c.len-rev-end.ensures.len),
      one_came rows rev c.node.result c.loop-rev.heads.keys c.leave_out.new.heads.keys c.leave_out-in-loop-rev.new.heads.keys
          c.insert.new.self.keys c.len-rev-end.ensures.lawful c.node.ensures c.loop-rev.invariant.1
          (subst (λ p. AreLeft rows p c.loop-rev.heads.keys c.leave_out.new.heads.keys) c.parent_revs-p1.ensures.first
          c.leave_out.ensures)
          (subst (λ p. AreLeft rows p c.leave_out.new.heads.keys c.leave_out-in-loop-rev.new.heads.keys)
          c.parent_revs-p1.ensures.second c.leave_out-in-loop-rev.ensures)
          (put_is c.leave_out-in-loop-rev.new.heads c.insert.new.self c.node.result c.in_ok-insert.ensures.updates.0),
    )

pub returns : goal.returns
returns g c =
    let rows = c.args.copied.now.rows in
    subst (λ (rs : List Changeset). AreHeadIds rs c.loop-rev.heads.keys)
    (take_all c.loop-rev.rev rows (omega (arith, c.loop-rev-test.false, c.len-rev-end.ensures.len))) c.loop-rev.invariant.1
