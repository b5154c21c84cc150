use Rattle.std.proofs.Common.{◌≡◌, ◌+◌, ◌<◌, ◌⊎◌, List, length, inl, inr, ap, sym, ◌∙◌, arith, get_or, subst}
use Rattle.hg_types.specs.declared.phase.Phase.{Phase}
use Rattle.hg_log.specs.Parents.{parents_of}
use Rattle.hg_phases.specs.Order.{phase_at}
use Rattle.hg_phases.specs.Standing.{phases_told}
use Rattle.hg_phases.specs.code.Tape.{rows_of}
use Rattle.hg_phases.specs.code.Walk.{IsTouched, IsHigher, IsHigherChild}
use Rattle.hg_phases.proofs.Undoing.{follows_same, follows_on, rows_length, rows_read}
use Rattle.hg_phases.proofs.Restood.{restood_none, restood_fewer, restood_set, restood_on, touched_more}
use Rattle.hg_phases.proofs.Restood.{none_touched}
use Rattle.hg_phases.proofs.walk.Advance.restand_all.Goals as goal

pub loop-place-init : goal.loop-place-init
loop-place-init g c =
    let parents = parents_of c.args.self.now.log.now.rows in
    let listed = rows_of c.args.changes.now.items in
    let rows = c.args.rows.now in
    let target = c.args.self.now.target in
    record {
      follows = follows_same rows c.args.changes.now.items;
      restood = restood_none parents (λ r. IsTouched parents target (phases_told rows) listed 0 r) rows
          (λ r low. none_touched parents target (phases_told rows) listed r);
    }

pub restand_lowered-requires-clause-row : goal.restand_lowered-requires-clause-row
restand_lowered-requires-clause-row g c =
    let changes = c.args.changes.now.items in
    let i = c.loop-place.place in
    let follows = c.loop-place.invariant.follows in
    let low : i < length changes = omega (arith, c.loop-place-test.true, c.requires.lowered) in
    let here : c.index.result.now.row ≡ get_or (rows_of changes) i 0 =
    rows_read c.loop-place.changes.items i c.index.result.now (omega (arith, low, follows.longer))
    c.index.ensures ∙ follows.first i low in
    omega (arith, here, c.requires.within i 0 (omega (arith, low, rows_length changes)), follows.as_long)

pub restand_lowered-requires-clause-lowered : goal.restand_lowered-requires-clause-lowered
restand_lowered-requires-clause-lowered g c =
    let changes = c.args.changes.now.items in
    let i = c.loop-place.place in
    let follows = c.loop-place.invariant.follows in
    let low : i < length changes = omega (arith, c.loop-place-test.true, c.requires.lowered) in
    let here : c.index.result.now.row ≡ get_or (rows_of changes) i 0 =
    rows_read c.loop-place.changes.items i c.index.result.now (omega (arith, low, follows.longer))
    c.index.ensures ∙ follows.first i low in
    ap (phase_at (phases_told c.loop-place.rows)) here
    ∙ ap (λ (ps : List Phase). phase_at ps (get_or (rows_of changes) i 0)) c.loop-place.invariant.restood.phases
    ∙ c.requires.phases i (omega (arith, low, rows_length changes))

pub restand_children-requires-clause-row : goal.restand_children-requires-clause-row
restand_children-requires-clause-row g c =
    let changes = c.args.changes.now.items in
    let i = c.loop-place.place in
    let follows = c.loop-place.invariant.follows in
    let low : i < length changes = omega (arith, c.loop-place-test.true, c.requires.lowered) in
    let here : c.index.result.now.row ≡ get_or (rows_of changes) i 0 =
    rows_read c.loop-place.changes.items i c.index.result.now (omega (arith, low, follows.longer))
    c.index.ensures ∙ follows.first i low in
    omega (
      arith,
      here,
      c.requires.within i 0 (omega (arith, low, rows_length changes)),
      follows.as_long,
      c.in_ok-restand_lowered.ensures.follows.as_long,
    )

pub returns-in_err-restand_lowered-clause-follows : goal.returns-in_err-restand_lowered-clause-follows
returns-in_err-restand_lowered-clause-follows g c =
    follows_on _ _ _ _ _ _ c.loop-place.invariant.follows c.restand_lowered.ensures.follows

pub returns-in_err-restand_children-clause-follows : goal.returns-in_err-restand_children-clause-follows
returns-in_err-restand_children-clause-follows g c =
    follows_on _ _ _ _ _ _ (follows_on _ _ _ _ _ _ c.loop-place.invariant.follows
    c.in_ok-restand_lowered.ensures.follows) c.restand_children.ensures.follows

pub loop-place-preserved : goal.loop-place-preserved
loop-place-preserved g c =
    let parents = parents_of c.args.self.now.log.now.rows in
    let changes = c.args.changes.now.items in
    let listed = rows_of changes in
    let i = c.loop-place.place in
    let old = c.args.rows.now in
    let follows = c.loop-place.invariant.follows in
    let low : i < length changes = omega (arith, c.loop-place-test.true, c.requires.lowered) in
    let here : c.index.result.now.row ≡ get_or listed i 0 =
    rows_read c.loop-place.changes.items i c.index.result.now (omega (arith, low, follows.longer))
    c.index.ensures ∙ follows.first i low in
    let within : get_or listed i 0 < length old =
    c.requires.within i 0 (omega (arith, low, rows_length changes)) in
    let target = c.args.self.now.target in
    let phases = phases_told old in
    let middle = restood_set parents (λ r. IsTouched parents target phases listed i r)
    (λ r. IsTouched parents target phases listed i r ⊎ (r ≡ get_or listed i 0)) old c.loop-place.rows
    c.restand_lowered.new.rows (get_or listed i 0) within (rw here at c.in_ok-restand_lowered.ensures.ok)
    (λ r r_in either. either) c.loop-place.invariant.restood in
    record {
      follows = follows_on _ _ _ _ _ _ (follows_on _ _ _ _ _ _ follows
          c.in_ok-restand_lowered.ensures.follows) c.in_ok-restand_children.ensures.follows;
      restood = restood_on parents
          (λ r. IsTouched parents target phases listed i r ⊎ (r ≡ get_or listed i 0))
          (λ r. IsHigherChild parents target (phases_told c.restand_lowered.new.rows) (get_or listed i 0) r)
          (λ r. IsTouched parents target phases listed (i + 1) r) old
          c.restand_lowered.new.rows c.restand_children.new.rows
          (λ r r_in touched. elim (touched_more parents target phases listed i r touched) [
            | inl one ↦ inl one
            | inr child ↦ inr (
              child.0,
              subst (λ (ps : List Phase). IsHigher target ps r) (sym middle.phases) child.1,
            )
          ])
          middle (rw here at c.in_ok-restand_children.ensures.ok);
    }

pub returns-clause-ok : goal.returns-clause-ok
returns-clause-ok g c =
    let parents = parents_of c.args.self.now.log.now.rows in
    let listed = rows_of c.args.changes.now.items in
    let phases = phases_told c.args.rows.now in
    restood_fewer parents (λ r. IsTouched parents c.args.self.now.target phases listed c.loop-place.place r)
    (λ r. IsTouched parents c.args.self.now.target phases listed c.args.lowered r) c.args.rows.now c.loop-place.rows
    (λ r r_in touched. record {
      place = touched.place;
      within = omega (arith, touched.within, c.loop-place-test.false);
      is = touched.is;
    })
    c.loop-place.invariant.restood
