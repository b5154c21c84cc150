use Rattle.std.proofs.Common.{◌<◌, ◌∙◌, arith, length, subst}
use Rattle.std.proofs.lemmas.List.{get_or_default}
use Rattle.hg_wireproto.specs.code.Settled.{IsSettled}
use Rattle.hg_wireproto.proofs.Settling.{settled_all, settled_one}
use Rattle.hg_wireproto.proofs.settled.settle.Goals as goal

pub loop-next-preserved : goal.loop-next-preserved
loop-next-preserved g c =
    let rows = c.args.copied.now.rows in
    let markers = c.args.copied.now.markers in
    let phases = c.args.copied.now.phases in
    let old = c.args.covered.now.items in
    let revs = c.loop-next.revs.items in
    let next = c.loop-next.next in
    let rev = c.index-rev.result.now in
    let low : next < length revs = omega (arith, c.loop-next-test.true, c.len.ensures) in
    let covered = c.loop-next.covered.items in
    settled_one rows markers phases (length old) c.args.heads.items old revs c.settle_one.new.revs.items
    next rev covered c.settle_one.new.covered.items low
    (c.index-rev.ensures ∙ get_or_default revs next rev 0 low)
    (subst (λ n. IsSettled rows markers phases n rev revs c.settle_one.new.revs.items covered
    c.settle_one.new.covered.items) c.loop-next.invariant.as_long (c.in_ok-settle_one.ensures c.if-not-branch.false))
    c.loop-next.invariant

pub returns : goal.returns
returns g c _ =
    settled_all c.args.copied.now.rows c.args.copied.now.markers c.args.copied.now.phases
    (length c.args.covered.now.items) c.args.heads.items c.args.covered.now.items c.loop-next.revs.items
    c.loop-next.next c.loop-next.covered.items (omega (arith, c.loop-next-test.false)) c.loop-next.invariant
