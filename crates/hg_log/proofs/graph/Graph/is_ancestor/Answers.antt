use Rattle.std.proofs.Common.{◌≡◌, ◌+◌, ◌-◌, ◌<◌, ◌≤◌, ℕ, length, true, false, Some, slice_get, subst, sym}
use Rattle.std.proofs.Common.{◌∙◌, inl, inr, arith, refl}
use Rattle.std.proofs.lemmas.Bool.{cases_lt}
use Rattle.hg_log.specs.code.Graph.Reaches.{itself}
use Rattle.hg_log.specs.code.Graph.{Reaches}
use Rattle.hg_log.specs.code.Marks.{IsMarked}
use Rattle.hg_log.proofs.Found.{not_above, ancestor_low, reached_within, AreFound, found_first, found_skip}
use Rattle.hg_log.proofs.Found.{found_step, found_it, found_none}
use Rattle.hg_log.proofs.graph.Graph.is_ancestor.Goals as goal

pub returns-then-row-len : goal.returns-then-row-len
returns-then-row-len g c =
    let graph = c.self.inside.family in
    rw (← c.self.view_is) (
      (λ is. absurd (let e : false ≡ true = is in cc)),
      (λ reach.
          let within = reached_within graph c.args.ancestor c.args.row reach in
          let low = ancestor_low graph c.self.invariant.earlier c.args.ancestor c.args.row reach in
          elim c.then-row-len.either [
            | inl high ↦ absurd (omega (arith, c.len.ensures))
            | inr both ↦ absurd (omega (arith, both.1))
          ]),
    )

pub returns-then-row-ancestor-2 : goal.returns-then-row-ancestor-2
returns-then-row-ancestor-2 g c =
    let graph = c.self.inside.family in
    let within : c.args.ancestor < length graph = omega (arith, c.len.ensures) in
    rw (← c.self.view_is) (
      (λ is. subst (λ (r : ℕ). Reaches graph c.args.ancestor r)
          (sym c.if-row-ancestor-2.true) (itself within)),
      (λ reach. refl),
    )

pub loop-child-init : goal.loop-child-init
loop-child-init g c =
    let graph = c.self.inside.family in
    let new = c.new-marks.ensures in
    let marked = rw (new.after, new.top) at c.in_ok-mark.ensures.marked in (
      c.in_ok-mark.ensures.after ∙ new.after,
      c.in_ok-mark.ensures.top ∙ new.top,
      omega arith,
      omega arith,
      found_first graph c.args.ancestor c.args.row c.new-marks.result.marked.items
          c.mark.new.self.marked.items (omega arith) (omega (arith, c.len.ensures)) new.none marked,
    )

pub returns-then-end_above : goal.returns-then-end_above
returns-then-end_above g c =
    let i = c.loop-child.invariant in
    let graph = c.self.inside.family in
    let none = rw i.1 at c.if-end_above.ensures in
    let all : (r : ℕ) → IsMarked c.args.row c.loop-child.marks.marked.items r → c.loop-child.child ≤ r =
    λ r m. elim (cases_lt r c.loop-child.child) [
      | inl low ↦ absurd (none refl r (omega arith) m)
      | inr high ↦ high
    ] in
    let never = found_none graph c.self.invariant.earlier c.args.ancestor c.args.row c.loop-child.child
    c.loop-child.marks.marked.items i.4 all in
    rw (← c.self.view_is) ((λ is. absurd (let e : false ≡ true = is in cc)), (λ reach. absurd (never reach)))

pub returns-then-has-2 : goal.returns-then-has-2
returns-then-has-2 g c =
    let i = c.loop-child.invariant in
    let graph = c.self.inside.family in
    let at : slice_get graph (c.loop-child.child - 1) ≡ Some c.parents-parents.result =
    c.parents-parents.ensures in
    let next : c.loop-child.child ≡ c.loop-child.child - 1 + 1 = omega (arith, i.2) in
    let found = subst (λ n. AreFound graph c.args.ancestor c.args.row n c.loop-child.marks.marked.items) next
    i.4 in
    let seen = rw i.1 at c.if-has.ensures in
    let reach = found_it graph c.self.invariant.earlier c.args.ancestor c.args.row
    (c.loop-child.child - 1) c.loop-child.marks.marked.items c.parents-parents.result found
    (seen.0 refl) at (c.if-has-2.ensures.0 refl) in
    rw (← c.self.view_is) ((λ is. reach), (λ r. refl))

pub mark-requires-then-has : goal.mark-requires-then-has
mark-requires-then-has g c =
    let i = c.loop-child.invariant in
    let graph = c.self.inside.family in
    let at : slice_get graph (c.loop-child.child - 1) ≡ Some c.parents-parents.result =
    c.parents-parents.ensures in
    not_above (c.loop-child.child - 1) c.loop-child.marks.top c.parents-parents.result.p1
    (c.self.invariant.earlier _ _ at).0 (omega (arith, i.1, i.3))

pub mark-requires-then-has-2 : goal.mark-requires-then-has-2
mark-requires-then-has-2 g c =
    let i = c.loop-child.invariant in
    let graph = c.self.inside.family in
    let at : slice_get graph (c.loop-child.child - 1) ≡ Some c.parents-parents.result =
    c.parents-parents.ensures in
    not_above (c.loop-child.child - 1) c.mark-then-has.new.self.top c.parents-parents.result.p2
    (c.self.invariant.earlier _ _ at).1 (omega (arith, i.1, i.3, c.in_ok-mark-2.ensures.top))

pub loop-child-preserved-in-Continue-branch-3 : goal.loop-child-preserved-in-Continue-branch-3
loop-child-preserved-in-Continue-branch-3 g c =
    let i = c.loop-child.invariant in
    let graph = c.self.inside.family in
    let at : slice_get graph (c.loop-child.child - 1) ≡ Some c.parents-parents.result =
    c.parents-parents.ensures in
    let next : c.loop-child.child ≡ c.loop-child.child - 1 + 1 = omega (arith, i.2) in
    let found = subst (λ n. AreFound graph c.args.ancestor c.args.row n c.loop-child.marks.marked.items) next
    i.4 in
    let first = c.in_ok-mark-2.ensures in
    let second = c.in_ok-mark-3.ensures in
    let one = rw (i.0, i.1) at first.marked in
    let two = rw (first.after, first.top, i.0, i.1) at second.marked in
    let seen = rw i.1 at c.if-has.ensures in (
      second.after ∙ first.after ∙ i.0,
      second.top ∙ first.top ∙ i.1,
      omega arith,
      omega (arith, i.3),
      found_step graph c.self.invariant.earlier c.args.ancestor c.args.row
          (c.loop-child.child - 1) _ _ _ c.parents-parents.result found (seen.0 refl) at
          (λ named. absurd (let e : false ≡ true = c.if-has-2.ensures.1 named in cc)) one two,
    )

pub loop-child-preserved : goal.loop-child-preserved
loop-child-preserved g c =
    let i = c.loop-child.invariant in
    let next : c.loop-child.child ≡ c.loop-child.child - 1 + 1 = omega (arith, i.2) in
    let found = subst (λ n. AreFound c.self.inside.family c.args.ancestor c.args.row n
    c.loop-child.marks.marked.items) next i.4 in
    let unseen = rw i.1 at c.if-has.ensures in (
      i.0,
      i.1,
      omega arith,
      omega (arith, i.3),
      found_skip c.self.inside.family c.args.ancestor c.args.row
          (c.loop-child.child - 1) c.loop-child.marks.marked.items found
          (λ m. absurd (let e : false ≡ true = unseen.1 m in cc)),
    )

pub returns : goal.returns
returns g c =
    let i = c.loop-child.invariant in
    let graph = c.self.inside.family in
    let all : (r : ℕ) → IsMarked c.args.row c.loop-child.marks.marked.items r
    → c.loop-child.child ≤ r = λ r m. let s = (i.4.sound r m).0 in omega (arith, i.2) in
    let never = found_none graph c.self.invariant.earlier c.args.ancestor c.args.row c.loop-child.child
    c.loop-child.marks.marked.items i.4 all in
    rw (← c.self.view_is) ((λ is. absurd (let e : false ≡ true = is in cc)), (λ reach. absurd (never reach)))
