use Rattle.std.proofs.Common.{◌∙◌, ◌<◌, length, List, map, subst, sym, Bool, ℕ}
use Rattle.std.specs.Prelude.{All}
use Rattle.hg_wireproto.specs.Hidden.{AreHidden}
use Rattle.hg_wireproto.specs.code.Behind.{AreBehind}
use Rattle.hg_wireproto.specs.code.Doubt.{AreLeftOut}
use Rattle.hg_wireproto.specs.code.Search.{AreApart}
use Rattle.hg_wireproto.specs.declared.branches.Branch.{Branch}
use Rattle.hg_wireproto.proofs.Apart.{apart_branches}
use Rattle.hg_wireproto.proofs.Doubts.{all_heads, all_kin, candidates}
use Rattle.hg_wireproto.proofs.Mapping.{covered_by, listed_within}
use Rattle.hg_wireproto.proofs.covered.covered_changesets.Goals as goal

pub hidden_with-requires-clause-behind : goal.hidden_with-requires-clause-behind
hidden_with-requires-clause-behind g c =
    subst (λ (b : List ℕ). AreBehind c.args.copied.now.rows c.kept-kept.result.now b) (sym c.as_slice.ensures.value)
    c.in_ok-behind.ensures

pub push_told-requires-clause-kin : goal.push_told-requires-clause-kin
push_told-requires-clause-kin g c =
    let rows = c.args.copied.now.rows in
    let markers = c.args.copied.now.markers in
    let phases = c.args.copied.now.phases in
    let seen = λ (b : Branch g.row.A.Denot). let pair : List ℕ × List ℕ = (b.name.items, b.revs.items) in pair in
    all_kin rows markers phases c.in_ok-branches.ensures.lawful c.as_slice-2.result.now c.as_slice-3.result.now
    (subst (AreHidden rows markers phases) (sym c.as_slice-2.ensures) c.in_ok-hidden.ensures)
    (subst (λ (o : List Bool). AreLeftOut rows c.as_slice-2.result.now (length rows) o) (sym c.as_slice-3.ensures.value)
    c.in_ok-out.ensures.each)
    c.kept-kept.result.now c.as_slice-4.result.now c.kept-kept.ensures.each
    (subst (λ (b : List ℕ). AreBehind rows c.kept-kept.result.now b) (sym c.as_slice-4.ensures.value)
    c.in_ok-behind.ensures)
    seen c.in_ok-branches.branches.items c.in_ok-branches.ensures.branches

pub push_told-requires-clause-apart : goal.push_told-requires-clause-apart
push_told-requires-clause-apart g c =
    apart_branches c.args.copied.now.rows c.as_slice-3.result.now (length c.args.copied.now.rows)
    (λ (b : Branch g.row.A.Denot). let pair : List ℕ × List ℕ = (b.name.items, b.revs.items) in pair)
    c.in_ok-branches.branches.items c.in_ok-branches.ensures.branches

pub push_heads-requires-clause-apart : goal.push_heads-requires-clause-apart
push_heads-requires-clause-apart g c =
    subst (λ bs. AreApart (map (λ (b : Branch g.row.A.Denot). b.revs.items) bs)) (sym c.as_slice-5.ensures.value)
    c.in_ok-doubtful.ensures.apart

pub push_heads-requires-clause-within : goal.push_heads-requires-clause-within
push_heads-requires-clause-within g c =
    let rows = c.args.copied.now.rows in
    subst (λ bs. All (λ (b : Branch g.row.A.Denot). All (λ r. r < length rows) b.revs.items) bs)
    (sym c.as_slice-5.ensures.value) c.in_ok-doubtful.ensures.within

pub uncover-requires : goal.uncover-requires
uncover-requires g c =
    let rows = c.args.copied.now.rows in
    let markers = c.args.copied.now.markers in
    let phases = c.args.copied.now.phases in
    let seen = λ (b : Branch g.row.A.Denot). let pair : List ℕ × List ℕ = (b.name.items, b.revs.items) in pair in
    let bs = c.in_ok-branches.branches.items in
    listed_within rows markers phases c.as_slice-3.result.now
    (candidates rows markers phases c.in_ok-branches.ensures.lawful c.as_slice-2.result.now c.as_slice-3.result.now
    (subst (AreHidden rows markers phases) (sym c.as_slice-2.ensures) c.in_ok-hidden.ensures)
    (subst (λ (o : List Bool). AreLeftOut rows c.as_slice-2.result.now (length rows) o) (sym c.as_slice-3.ensures.value)
    c.in_ok-out.ensures.each))
    c.in_ok-branches.ensures.lawful (map seen bs) c.in_ok-branches.ensures.branches c.as_slice-6.result.now _
    (all_heads rows seen bs c.in_ok-doubtful.doubtful.items c.as_slice-5.result.now _ _ _ _
    c.new-heads.ensures.items c.in_ok-doubtful.ensures.heads c.as_slice-5.ensures.value c.in_ok-push_heads.ensures
    c.as_slice-6.ensures.value)
    (c.in_ok-covered.ensures.len ∙ c.len.ensures.len)

pub returns : goal.returns
returns g c =
    let rows = c.args.copied.now.rows in
    let markers = c.args.copied.now.markers in
    let phases = c.args.copied.now.phases in
    let seen = λ (b : Branch g.row.A.Denot). let pair : List ℕ × List ℕ = (b.name.items, b.revs.items) in pair in
    let bs = c.in_ok-branches.branches.items in
    covered_by rows markers phases c.as_slice-3.result.now
    (candidates rows markers phases c.in_ok-branches.ensures.lawful c.as_slice-2.result.now c.as_slice-3.result.now
    (subst (AreHidden rows markers phases) (sym c.as_slice-2.ensures) c.in_ok-hidden.ensures)
    (subst (λ (o : List Bool). AreLeftOut rows c.as_slice-2.result.now (length rows) o) (sym c.as_slice-3.ensures.value)
    c.in_ok-out.ensures.each))
    c.in_ok-branches.ensures.lawful (map seen bs) c.in_ok-branches.ensures.branches c.as_slice-6.result.now
    c.in_ok-covered.covered.items _
    (all_heads rows seen bs c.in_ok-doubtful.doubtful.items c.as_slice-5.result.now _ _ _ _
    c.new-heads.ensures.items c.in_ok-doubtful.ensures.heads c.as_slice-5.ensures.value c.in_ok-push_heads.ensures
    c.as_slice-6.ensures.value)
    (c.in_ok-covered.ensures.len ∙ c.len.ensures.len)
    (λ r low. c.in_ok-covered.ensures.all r (subst (λ n. r < n) (sym c.len.ensures.len) low))
    c.uncover.ensures.as_long c.uncover.ensures.each
