use Rattle.std.proofs.Common.{◌∙◌, ap, subst, ℕ, Vec, map}
use Rattle.std.specs.BTreeMap.{insert_entry}
use Rattle.std.specs.Cmp.Lexicographic.{slice_cmp}
use Rattle.std.specs.Ordering.{nat_cmp}
use Rattle.hg_wireproto.specs.code.Branches.{IsKept}
use Rattle.hg_wireproto.proofs.Branching.{kept_insert, kept_set}
use Rattle.hg_wireproto.proofs.branches.add_member.Goals as goal

pub returns-in_ok-push-in-Some : goal.returns-in_ok-push-in-Some
returns-in_ok-push-in-Some g c =
    let written = c.get_mut.follows.holds c.push.new.self in
    subst (λ name. IsKept name c.args.rev (map (λ e. (e.0.items, e.1.items)) c.args.members.now.entries)
    (map (λ e. (e.0.items, e.1.items)) (c.get_mut.follows.lender c.push.new.self).entries)) c.branch-name.ensures
    (kept_set (λ (v : Vec ℕ g.row.A.Denot). v.items) (λ (v : Vec ℕ g.row.A.Denot). v.items) c.branch-name.result.now
    c.args.rev _ _ c.in-Some.revs.now c.push.new.self c.in-Some.ensures.value written.0
    c.in_ok-push-in-Some.ensures.items written.4)

pub returns-in_ok-insert-in-None : goal.returns-in_ok-insert-in-None
returns-in_ok-insert-in-None g c =
    subst (λ name. IsKept name c.args.rev (map (λ e. (e.0.items, e.1.items)) c.args.members.now.entries)
    (map (λ e. (e.0.items, e.1.items)) c.insert.new.self.entries)) c.branch-name.ensures
    (kept_insert (λ (v : Vec ℕ g.row.A.Denot). v.items) (λ (v : Vec ℕ g.row.A.Denot). v.items)
    c.in_ok-name-in-None.name c.branch-name.result.now c.args.rev _ _ c.in_ok-revs-in-None.revs
    c.in_ok-name-in-None.ensures.items c.in-None.ensures.value
    (c.in_ok-insert-in-None.ensures.entries
    ∙ ap (λ m. insert_entry (λ (x y : Vec ℕ g.row.A.Denot). slice_cmp nat_cmp x.items y.items) m.entries
    c.in_ok-name-in-None.name c.in_ok-revs-in-None.revs) c.get_mut.follows.holds-at-none)
    c.in_ok-revs-in-None.ensures.items c.in_ok-insert-in-None.ensures.ordered)
