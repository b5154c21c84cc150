use Rattle.std.proofs.Common.{◌<◌, List, length, Some, sym, subst, inl, inr, arith}
use Rattle.hg_types.specs.declared.phase.Phase.{Phase}
use Rattle.hg_log.specs.Parents.{parents_of}
use Rattle.hg_phases.specs.Standing.{phases_told}
use Rattle.hg_phases.specs.code.Walk.{AreRestood, IsHigher, IsHigherRow}
use Rattle.hg_phases.proofs.Undoing.{follows_same, follows_on}
use Rattle.hg_phases.proofs.Restood.{restood_none, restood_on, IsLater, IsNext}
use Rattle.hg_phases.proofs.Restood.{next_is, next_within, none_behind, behind_next, fewer_steps}
use Rattle.hg_phases.proofs.walk.Advance.restand_children.Goals as goal

pub children-init : goal.children-init
children-init g c =
    let log = c.args.self.now.log.now.rows in
    let parents = parents_of log in
    let next = c.last_child-next.result in
    let rows = c.args.rows.now in
    record {
      follows = follows_same rows c.args.changes.now.items;
      restood = restood_none parents
          (λ r. IsLater parents c.args.row next r × IsHigher c.args.self.now.target (phases_told rows) r) rows
          (λ r low later. none_behind parents c.args.row (length log) next c.last_child-next.ensures r
          (omega (arith, low, c.requires.rows)) later.0);
      next = next_is parents c.args.row (length log) next c.last_child-next.ensures;
    }

pub children-smaller : goal.children-smaller
children-smaller g c =
    let parents = parents_of c.args.self.now.log.now.rows in
    rw c.in-Some.is
    (fewer_steps parents c.args.row c.in-Some.child c.child_before-next.result c.child_before-next.ensures)

pub children-preserved : goal.children-preserved
children-preserved g c =
    let log = c.args.self.now.log.now.rows in
    let parents = parents_of log in
    let row = c.args.row in
    let target = c.args.self.now.target in
    let child = c.in-Some.child in
    let old = c.args.rows.now in
    let rows = c.children.rows in
    let next = c.child_before-next.result in
    let is = c.child_before-next.ensures in
    let here : IsNext parents row (length log) (Some child) = rw c.in-Some.is at c.children.invariant.next in
    let restood : AreRestood parents
    (λ r. IsLater parents row (Some child) r × IsHigher target (phases_told old) r) old rows =
    rw c.in-Some.is at c.children.invariant.restood in
    let less : child < length log = here.0 in
    record {
      follows = follows_on _ _ _ _ _ _ c.children.invariant.follows c.in_ok-restand_higher.ensures.follows;
      restood = restood_on parents
          (λ r. IsLater parents row (Some child) r × IsHigher target (phases_told old) r)
          (λ r. IsHigherRow target (phases_told rows) child r)
          (λ r. IsLater parents row next r × IsHigher target (phases_told old) r) old rows
          c.restand_higher.new.rows
          (λ r r_in later. elim (behind_next parents row child next is r later.0) [
            | inl before ↦ inl (before, later.1)
            | inr e ↦ inr (e, subst (λ (ps : List Phase). IsHigher target ps r) (sym restood.phases) later.1)
          ]) restood c.in_ok-restand_higher.ensures.ok;
      next = next_within parents row child (length log) next (omega (arith, less))
          (next_is parents row child next is);
    }
