use Rattle.std.proofs.Common.{◌≡◌, ◌<◌, ◌+◌, ◌-◌, ◌∙◌, ap, length, get_or, ℕ, arith, subst}
use Rattle.std.specs.Int.RustNames.{bit_or}
use Rattle.std.proofs.lemmas.List.{get_or_default}
use Rattle.hg_log.proofs.CallerLemmas.{ordered}
use Rattle.hg_wireproto.proofs.Gathering.{AreGathered, behind_all, gathered_more}
use Rattle.hg_wireproto.proofs.behind.sets_behind.Goals as goal

pub loop-rev-preserved : goal.loop-rev-preserved
loop-rev-preserved g c =
    let rows = c.args.copied.now.rows in
    let sets = c.args.sets.now in
    let rev = c.loop-rev.rev in
    let old = c.loop-rev.behind.items in
    let held = c.loop-rev.invariant in
    let next : rev ≡ rev - 1 + 1 = omega (arith, c.loop-rev-test.true) in
    let within : rev - 1 < length rows = omega (arith, held.0, c.loop-rev-test.true) in
    let gathered = subst (λ n. AreGathered rows sets n old) next held.1 in
    let here : rev - 1 < length old = omega (arith, within, gathered.as_long) in
    let read = c.index.ensures ∙ get_or_default old (rev - 1) _ 0 here in (
      omega (arith, within),
      gathered_more rows sets (ordered rows c.len.ensures.lawful) (rev - 1) _ _ _ old _ _ within gathered
          (ap (λ (x : ℕ). bit_or (get_or sets (rev - 1) 0) x) read)
          c.parent_revs-p1.ensures.first c.parent_revs-p1.ensures.second
          c.add_sets.ensures c.add_sets-in-loop-rev.ensures,
    )

pub returns : goal.returns
returns g c =
    let rows = c.args.copied.now.rows in
    let sets = c.args.sets.now in
    let old = c.loop-rev.behind.items in
    let none : c.loop-rev.rev ≡ 0 = omega (arith, c.loop-rev-test.false) in
    behind_all rows sets c.len.ensures.lawful old
    (subst (λ n. AreGathered rows sets n old) none c.loop-rev.invariant.1)
