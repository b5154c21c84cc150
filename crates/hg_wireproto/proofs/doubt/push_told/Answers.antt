use Rattle.std.proofs.Common.{◌≡◌, ◌∙◌, ◌++◌, ◌<◌, ap, arith, length, map, List, subst, sym, ℕ}
use Rattle.std.specs.Prelude.{All}
use Rattle.std.specs.List.{flat_map}
use Rattle.std.proofs.lemmas.List.Elements.{All-push}
use Rattle.hg_wireproto.specs.code.Branches.{heads_in}
use Rattle.hg_wireproto.specs.code.Doubt.{IsKin}
use Rattle.hg_wireproto.specs.code.Search.{AreApart}
use Rattle.hg_wireproto.specs.declared.branches.Branch.{Branch}
use Rattle.hg_wireproto.proofs.Apart.{apart_end, apart_put, apart_told}
use Rattle.hg_wireproto.proofs.Doubts.{all_first, all_put, all_rest, branch_put, heads_put, none_put, told_heads, HaveSame}
use Rattle.hg_wireproto.proofs.doubt.push_told.Goals as goal

pub loop-branch-init : goal.loop-branch-init
loop-branch-init g c =
    let rows = c.args.copied.now.rows in
    let line = λ (b : Branch g.row.A.Denot). heads_in rows b.revs.items in
    let whole = c.args.heads.now.items ++ flat_map line c.args.branches.items in
    let revs_of = λ (b : Branch g.row.A.Denot). b.revs.items in
    let left = c.into_iter-branch-iterator.ensures.into_iter_gives.0 in (
      subst (λ (bs : List (Branch g.row.A.Denot)). HaveSame ((c.args.heads.now.items
          ++ flat_map line c.new-doubtful.result.items) ++ flat_map line bs) whole) (sym left)
          (subst (λ (bs : List (Branch g.row.A.Denot)). HaveSame ((c.args.heads.now.items ++ flat_map line bs)
          ++ flat_map line c.args.branches.items) whole) (sym c.new-doubtful.ensures.items)
          (none_put line c.args.heads.now.items c.args.branches.items)),
      subst (λ (bs : List (Branch g.row.A.Denot)). All (λ (b : Branch g.row.A.Denot). All (λ r. r < length rows) b.revs.items) bs)
          (sym c.new-doubtful.ensures.items) (λ k d low. absurd (omega (arith, low))),
      subst (λ (bs : List (Branch g.row.A.Denot)). All (λ (b : Branch g.row.A.Denot). IsKin rows c.args.behind.now b.revs.items) bs)
          (sym left) c.requires.kin,
      subst (λ (bs : List (Branch g.row.A.Denot)). AreApart (map revs_of bs
          ++ map revs_of c.into_iter-branch-iterator.result.rest.items)) (sym c.new-doubtful.ensures.items)
          (subst (λ (bs : List (Branch g.row.A.Denot)). AreApart (map revs_of bs)) (sym left) c.requires.apart),
    )

pub are_told-requires : goal.are_told-requires
are_told-requires g c k d low =
    let rows = c.args.copied.now.rows in
    let one : IsKin rows c.args.behind.now c.in-Some.branch.revs.items =
    all_first (λ (b : Branch g.row.A.Denot). IsKin rows c.args.behind.now b.revs.items)
    c.loop-branch.branch-iterator.rest.items c.next.new.self.rest.items c.in-Some.branch c.in-Some.ensures.steps.0
    c.loop-branch.invariant.2 in
    let within = subst (λ (rs : List ℕ). All (λ r. r < length rows) rs) (sym c.as_slice.ensures.value) one.within in
    omega (arith, within k d low, c.requires.behind)

pub loop-branch-preserved-then-are_told : goal.loop-branch-preserved-then-are_told
loop-branch-preserved-then-are_told g c =
    let rows = c.args.copied.now.rows in
    let behind = c.args.behind.now in
    let line = λ (b : Branch g.row.A.Denot). heads_in rows b.revs.items in
    let kin = λ (b : Branch g.row.A.Denot). IsKin rows behind b.revs.items in
    let left = c.loop-branch.branch-iterator.rest.items in
    let rest = c.next.new.self.rest.items in
    let branch = c.in-Some.branch in
    let is = c.in-Some.ensures.steps.0 in
    let held = c.loop-branch.invariant in
    let one : IsKin rows behind branch.revs.items = all_first kin left rest branch is held.2 in
    let revs = c.as_slice.result.now in
    let seen : revs ≡ branch.revs.items = c.as_slice.ensures.value in
    let told = c.are_told.ensures c.if-are_told.true in
    let all : heads_in rows revs ≡ revs =
    told_heads rows behind revs told.0 (subst (IsKin rows behind) (sym seen) one) told.1 told.2 in
    let put : c.extend_from_slice.new.self.items ≡ c.loop-branch.heads.items ++ line branch =
    c.in_ok-extend_from_slice.ensures.items
    ∙ ap (λ (rs : List ℕ). c.loop-branch.heads.items ++ rs)
    (c.as_slice-then-are_told.ensures.value ∙ sym seen ∙ sym all ∙ ap (heads_in rows) seen) in (
      heads_put line c.loop-branch.heads.items _ c.loop-branch.doubtful.items left rest branch is held.0 _ put,
      held.1,
      all_rest kin left rest branch is held.2,
      apart_told (λ (b : Branch g.row.A.Denot). b.revs.items) c.loop-branch.doubtful.items left rest branch is held.3,
    )

pub loop-branch-preserved : goal.loop-branch-preserved
loop-branch-preserved g c =
    let rows = c.args.copied.now.rows in
    let behind = c.args.behind.now in
    let line = λ (b : Branch g.row.A.Denot). heads_in rows b.revs.items in
    let kin = λ (b : Branch g.row.A.Denot). IsKin rows behind b.revs.items in
    let within = λ (b : Branch g.row.A.Denot). All (λ r. r < length rows) b.revs.items in
    let left = c.loop-branch.branch-iterator.rest.items in
    let rest = c.next.new.self.rest.items in
    let branch = c.in-Some.branch in
    let is = c.in-Some.ensures.steps.0 in
    let held = c.loop-branch.invariant in
    let one : IsKin rows behind branch.revs.items = all_first kin left rest branch is held.2 in
    let put = c.in_ok-push.ensures.items in (
      branch_put line c.loop-branch.heads.items _ c.loop-branch.doubtful.items left rest branch is held.0 _ put,
      subst (λ (bs : List (Branch g.row.A.Denot)). All within bs) (sym put)
          (All-push within c.loop-branch.doubtful.items branch held.1 one.within),
      all_rest kin left rest branch is held.2,
      apart_put (λ (b : Branch g.row.A.Denot). b.revs.items) c.loop-branch.doubtful.items left rest branch is held.3
          _ put,
    )

pub returns-clause-heads : goal.returns-clause-heads
returns-clause-heads g c =
    let rows = c.args.copied.now.rows in
    let none : length c.loop-branch.branch-iterator.rest.items ≡ 0 =
    omega (arith, c.in-None.ensures.steps.0, c.loop-branch.branch-iterator.rest.ok.0) in
    all_put (λ (b : Branch g.row.A.Denot). heads_in rows b.revs.items) c.loop-branch.heads.items _
    c.loop-branch.doubtful.items c.loop-branch.branch-iterator.rest.items none
    c.loop-branch.invariant.0

pub returns-clause-apart : goal.returns-clause-apart
returns-clause-apart g c =
    let none : length c.loop-branch.branch-iterator.rest.items ≡ 0 =
    omega (arith, c.in-None.ensures.steps.0, c.loop-branch.branch-iterator.rest.ok.0) in
    apart_end (λ (b : Branch g.row.A.Denot). b.revs.items) c.loop-branch.doubtful.items
    c.loop-branch.branch-iterator.rest.items none c.loop-branch.invariant.3
