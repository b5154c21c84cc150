use Rattle.std.proofs.Common.{◌<◌, ◌/◌, ◌+◌, ap, arith, length, subst, sym}
use Rattle.hg_wireproto.specs.code.Search.{HasFirst}
use Rattle.hg_wireproto.proofs.Searching.{windows_all, windows_more, windows_none, windows_same, AreWindows}
use Rattle.hg_wireproto.proofs.search.windows_of.Goals as goal
use Rattle.hg_wireproto.proofs.search.windows_of.Goals.{in-Some, in_default}

pub loop-rev-init : goal.loop-rev-init
loop-rev-init g c = (
  omega arith,
  windows_none c.args.firsts.now c.in_ok-windows.windows.items c.in_ok-windows.ensures.enough
      c.in_ok-windows.ensures.ends,
)

pub loop-rev-preserved : goal.loop-rev-preserved
loop-rev-preserved g c =
    let firsts = c.args.firsts.now in
    let rev = c.loop-rev.rev in
    let held = c.loop-rev.invariant.1 in
    elim c.match-firsts-rev.branch [
      | in-Some w ↦
          let first = w.in-Some.first in
          let has : HasFirst firsts rev first = w.in-Some.is in
          let low : first / 512 < length c.loop-rev.windows.items =
          omega (arith, c.requires.within rev first has, held.enough) in (
            omega (arith, c.loop-rev-test.true),
            windows_more firsts rev first c.loop-rev.windows.items c.match-firsts-rev.windows.items
                w.index_mut.result.now w.widen.new.window held has low w.index_mut.ensures.value
                (ap (λ v. v.items) w.windows-is) w.widen.ensures.first w.widen.ensures.end w.widen.ensures.ends,
          )
      | in_default w ↦ (
        omega (arith, c.loop-rev-test.true),
        subst (AreWindows firsts (rev + 1)) (sym (ap (λ v. v.items) w.windows-is))
            (windows_same firsts rev c.loop-rev.windows.items held w.in_default.not-Some),
      )
    ]

pub returns-clause-each : goal.returns-clause-each
returns-clause-each g c =
    windows_all c.args.firsts.now c.loop-rev.rev c.loop-rev.windows.items c.loop-rev-test.false c.loop-rev.invariant.1
