use Rattle.std.proofs.Common.{subst, Option, ℕ}
use Rattle.hg_wireproto.specs.code.Settled.{IsPushed}
use Rattle.hg_wireproto.proofs.Settling.{both_pushed}
use Rattle.hg_wireproto.proofs.settled.push_parents.Goals as goal

pub returns : goal.returns
returns g c so =
    let rows = c.args.copied.now.rows in
    let rev = c.args.rev in
    both_pushed rows rev c.args.revs.now.items c.push_parent.new.revs.items c.push_parent-2.new.revs.items
    (subst (λ (p : Option ℕ). IsPushed rows rev p c.args.revs.now.items c.push_parent.new.revs.items)
    c.parent_revs-p1.ensures.first (c.in_ok-push_parent.ensures c.if-not-branch.false))
    (subst (λ (p : Option ℕ). IsPushed rows rev p c.push_parent.new.revs.items c.push_parent-2.new.revs.items)
    c.parent_revs-p1.ensures.second (c.in_ok-push_parent-2.ensures so))
