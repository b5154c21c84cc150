use Rattle.std.proofs.Common.{◌≡◌, ◌∙◌, ap, arith, get_or, map, sym, List, [], ℕ}
use Rattle.std.proofs.lemmas.List.{get_or-map, length-map}
use Rattle.hg_wireproto.specs.declared.branches.Branch.{Branch}
use Rattle.hg_wireproto.proofs.Apart.{firsts_all, firsts_more, firsts_none}
use Rattle.hg_wireproto.proofs.search.firsts_of.Goals as goal

pub loop-branch-init : goal.loop-branch-init
loop-branch-init g c = (
  c.in_ok-firsts.ensures.len,
  firsts_none (map (λ (b : Branch g.row.A.Denot). b.revs.items) c.args.branches.now) c.in_ok-firsts.firsts.items
      c.in_ok-firsts.ensures.none,
)

pub loop-branch-preserved : goal.loop-branch-preserved
loop-branch-preserved g c =
    let branches = c.args.branches.now in
    let i = c.loop-branch.branch-index in
    let lists : List (List ℕ) = map (λ b. b.revs.items) branches in
    let revs = c.as_slice.result.now in
    let is : revs ≡ get_or lists i [] =
    c.as_slice.ensures.value ∙ ap (λ (b : Branch g.row.A.Denot). b.revs.items) c.branch-item.is
    ∙ sym (get_or-map (λ (b : Branch g.row.A.Denot). b.revs.items) branches i c.branch-item.result []
    c.loop-branch-test.true) in (
      c.note_first.ensures.as_long ∙ c.loop-branch.invariant.0,
      firsts_more lists i revs c.loop-branch.firsts.items _
          (omega (arith, length-map branches (λ (b : Branch g.row.A.Denot). b.revs.items), c.loop-branch-test.true))
          is c.requires.apart c.loop-branch.invariant.1 c.note_first.ensures.each,
    )

pub returns-clause-each : goal.returns-clause-each
returns-clause-each g c =
    let lists : List (List ℕ) = map (λ b. b.revs.items) c.args.branches.now in
    firsts_all lists c.loop-branch.branch-index c.loop-branch.firsts.items
    (omega (
      arith,
      length-map c.args.branches.now (λ (b : Branch g.row.A.Denot). b.revs.items),
      c.loop-branch-test.false,
    )) c.loop-branch.invariant.1
