use Rattle.std.proofs.Common.{◌≡◌, ◌∙◌, ◌+◌, ◌-◌, ◌≤◌, ℕ, arith, length, map, take, drop, subst, sym, ap}
use Rattle.std.specs.Prelude.{not}
use Rattle.std.specs.List.{list_any}
use Rattle.hg_wireproto.specs.code.Branches.{AreBranches}
use Rattle.hg_wireproto.proofs.Branching.{branches_none, branches_piece}
use Rattle.hg_wireproto.proofs.branches.members_of.Goals as goal

pub pieces-init : goal.pieces-init
pieces-init g c =
    let rows = c.args.copied.now.rows in (
      omega arith,
      subst (λ es. AreBranches rows c.args.out.now 0 (map (λ e. (e.0.items, e.1.items)) es))
          (sym c.new-members.ensures.empty) (branches_none rows c.args.out.now),
    )

pub pieces-preserved : goal.pieces-preserved
pieces-preserved g c =
    let rows = c.args.copied.now.rows in
    let out = c.args.out.now in
    let n = c.pieces.first in
    let within : n + 64 ≤ length rows = omega (arith, c.pieces-test.true, c.len-len.ensures.len) in
    let long : 64 ≡ n + 64 - n = omega arith in (
      within,
      branches_piece rows out 64 n (map (λ e. (e.0.items, e.1.items)) c.pieces.members.entries)
          (omega (arith, within, c.requires))
          (ap (λ (k : ℕ). list_any not (take k (drop n out))) long ∙ sym c.has_shown.ensures ∙ c.if-has_shown.false)
          c.pieces.invariant.1,
    )

pub returns-clause-members : goal.returns-clause-members
returns-clause-members g c =
    let rows = c.args.copied.now.rows in
    subst (λ n. AreBranches rows c.args.out.now n (map (λ e. (e.0.items, e.1.items)) c.add_members-2.new.members.entries))
    c.len-len.ensures.len c.in_ok-add_members-2.ensures
