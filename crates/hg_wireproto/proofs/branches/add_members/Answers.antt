use Rattle.std.proofs.Common.{◌≡◌, arith, map, ◌+◌, ◌≤◌, subst, sym}
use Rattle.hg_wireproto.specs.code.Branches.{AreBranches}
use Rattle.hg_wireproto.proofs.Branching.{branches_more, branches_skip}
use Rattle.hg_wireproto.proofs.branches.add_members.Goals as goal
use Rattle.hg_wireproto.proofs.branches.add_members.Goals.{then-not-out-rev+in_ok-add_member, else-not-out-rev}

pub loop-rev-init : goal.loop-rev-init
loop-rev-init g c = (c.requires.ordered, c.requires.before)

pub loop-rev-preserved : goal.loop-rev-preserved
loop-rev-preserved g c =
    let rows = c.args.copied.now.rows in
    let out = c.args.out.now in
    let n = c.loop-rev.rev in
    let held = c.loop-rev.invariant.1 in
    let within : n + 1 ≤ c.args.last = omega (arith, c.loop-rev-test.true) in
    elim c.if-not-out-rev.branch [
      | then-not-out-rev+in_ok-add_member w ↦ (
        within,
        subst (λ m. AreBranches rows out (n + 1) (map (λ e. (e.0.items, e.1.items)) m.entries)) (sym w.members-is)
            (branches_more rows out n _ _ (w.if-not-out-rev.true) held w.in_ok-add_member.ensures),
      )
      | else-not-out-rev w ↦ (
        within,
        subst (λ m. AreBranches rows out (n + 1) (map (λ e. (e.0.items, e.1.items)) m.entries)) (sym w.members-is)
            (branches_skip rows out n _ (w.if-not-out-rev.false) held),
      )
    ]

pub returns : goal.returns
returns g c =
    let rows = c.args.copied.now.rows in
    let last : c.loop-rev.rev ≡ c.args.last = omega (arith, c.loop-rev.invariant.0, c.loop-rev-test.false) in
    subst (λ n. AreBranches rows c.args.out.now n (map (λ e. (e.0.items, e.1.items)) c.loop-rev.members.entries)) last
    c.loop-rev.invariant.1
