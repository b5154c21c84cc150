use Rattle.std.proofs.Common.{◌≡◌, ◌+◌, ◌-◌, ◌≤◌, arith, subst}
use Rattle.hg_wireproto.proofs.Searching.{found_all, found_more, found_none, handed_more, handed_none}
use Rattle.hg_wireproto.proofs.Searching.{number_small, AreFound, AreHanded}
use Rattle.hg_wireproto.proofs.search.push_some.Goals as goal

pub loop-rev-init : goal.loop-rev-init
loop-rev-init g c =
    let rows = c.args.copied.now.rows in
    let firsts = c.args.firsts.now in
    let w = c.args.window in (
      c.in_ok-grow.ensures.room,
      omega arith,
      handed_none rows firsts c.args.group c.len.ensures.lawful w.first w.end c.grow.new.behind.items
          c.requires.between c.in_ok-grow.ensures.empty,
      found_none rows firsts c.args.group c.len.ensures.lawful w.first w.end c.args.heads.now.items c.requires.between,
    )

pub tell-requires : goal.tell-requires
tell-requires g c =
    number_small _ c.args.group c.number_in-number.result c.number_in-number.ensures

pub loop-rev-preserved : goal.loop-rev-preserved
loop-rev-preserved g c =
    let rows = c.args.copied.now.rows in
    let firsts = c.args.firsts.now in
    let group = c.args.group in
    let first = c.args.window.first in
    let start = c.args.heads.now.items in
    let r = c.loop-rev.rev - 1 in
    let old = c.loop-rev.behind.items in
    let now = c.loop-rev.heads.items in
    let held = c.loop-rev.invariant in
    let next : c.loop-rev.rev ≡ r + 1 = omega (arith, c.loop-rev-test.true) in
    let past : first ≤ r = omega (arith, c.loop-rev-test.true) in
    let handed = subst (λ n. AreHanded rows firsts group first n old) next held.2 in
    let found = subst (λ n. AreFound rows firsts group n start now) next held.3 in (
      omega (
        arith,
        held.0,
        c.take-own.ensures.as_long,
        c.hand_on.ensures.as_long,
        c.hand_on-in-loop-rev.ensures.as_long,
      ),
      omega (arith, held.1),
      handed_more rows firsts group c.len.ensures.lawful first r old c.take-own.result.words c.number_in-number.result
          past handed c.take-own.ensures.taken c.number_in-number.ensures
          c.take-own.new.behind.items c.hand_on.new.behind.items c.hand_on-in-loop-rev.new.behind.items
          c.tell.new.own.words _ _ c.take-own.ensures.each c.in_ok-tell.ensures.own
          c.parent_revs-p1.ensures.first c.parent_revs-p1.ensures.second c.hand_on.ensures.each
          c.hand_on-in-loop-rev.ensures.each,
      found_more rows firsts group c.len.ensures.lawful first r old c.take-own.result.words c.number_in-number.result
          past handed c.take-own.ensures.taken c.number_in-number.ensures start now c.tell.new.heads.items
          c.requires.as_long found c.in_ok-tell.ensures.heads,
    )

pub returns-clause-heads : goal.returns-clause-heads
returns-clause-heads g c =
    found_all c.args.copied.now.rows c.args.firsts.now c.args.group c.len.ensures.lawful c.args.window.first
    c.args.window.end c.loop-rev.rev c.args.heads.now.items c.loop-rev.heads.items c.loop-rev-test.false
    c.requires.between c.loop-rev.invariant.3
