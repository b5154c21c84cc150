use Rattle.std.proofs.Common.{◌≡◌, true, sym, ap, subst, refl, arith}
use Rattle.hg_push.specs.Rows.{IsShut}
use Rattle.hg_push.specs.Run.{run_push}
use Rattle.hg_push.specs.Book.{AreRows, is_between, is_opened}
use Rattle.hg_push.proofs.Finding.{pushes_set}
use Rattle.hg_push.proofs.Holding.{holds_unchanged}
use Rattle.hg_push.proofs.Stepping.{open_at_opened, open_not_shut, same_openings, step_taken, rows_stay}
use Rattle.hg_push.proofs.Stepping.{open_count, room_is}
use Rattle.hg_push.proofs.Searching.{rows_in_order}
use Rattle.hg_push.proofs.EachRow.{each_set}
use Rattle.hg_push.proofs.book.Book.step.Goals as goal

pub open_place-requires : goal.open_place-requires
open_place-requires g c =
    rows_in_order (is_between c.self.inside.first_push c.self.inside.next) c.self.inside.rows.items
    c.self.invariant.0

pub returns-in_default-clause-holds : goal.returns-in_default-clause-holds
returns-in_default-clause-holds g c =
    λ first h holds. holds_unchanged run_push first h c.args.self.now c.args.item holds
    (subst (IsShut c.args.item.push) (ap (λ b. b.rows) c.self.view_is) c.in_default.ensures.none)

pub step_row-requires-clause-is_open : goal.step_row-requires-clause-is_open
step_row-requires-clause-is_open g c =
    let at = c.in-Some.ensures.some in
    at.1.1 c.index_mut-row.result.now c.index_mut-row.ensures.value

pub step_row-requires-clause-room : goal.step_row-requires-clause-room
step_row-requires-clause-room g c =
    let at = c.in-Some.ensures.some in
    let one = room_is c.self.inside.rows.items c.in-Some.at c.index_mut-row.result.now at.0
    c.index_mut-row.ensures.value (at.1.1 _ c.index_mut-row.ensures.value) in
    omega (arith, one, c.self.invariant.2)

pub invariant_of-self : goal.invariant_of-self
invariant_of-self g c =
    let at = c.in-Some.ensures.some in
    let is = c.index_mut-row.ensures.value in
    let count = open_count c.self.inside.rows.items c.in-Some.at c.index_mut-row.result.now c.step_row.new.row
    at.0 is (at.1.1 _ is) in (
      rows_stay _ c.self.inside.rows.items c.in-Some.at c.index_mut-row.result.now c.step_row.new.row is
          c.step_row.ensures.steps.push c.self.invariant.0,
      c.self.invariant.1,
      omega (arith, count, c.self.invariant.2, c.step_row.ensures.room, c.step_row.ensures.capacity),
      each_set _ c.self.inside.rows.items c.in-Some.at c.step_row.new.row c.self.invariant.3
          c.step_row.ensures.told,
    )

pub returns-clause-opened : goal.returns-clause-opened
returns-clause-opened g c = λ refused.
    let at = c.in-Some.ensures.some in
    subst (λ b. is_opened b c.args.item.push ≡ true) c.self.view_is
    (open_at_opened (is_between c.self.inside.first_push c.self.inside.next) c.args.item.push
    c.self.inside.rows.items c.in-Some.at c.index_mut-row.result.now c.self.invariant.0 at.1
    c.index_mut-row.ensures.value)

pub returns-clause-dropped : goal.returns-clause-dropped
returns-clause-dropped g c = λ shut.
    let at = c.in-Some.ensures.some in
    absurd (open_not_shut c.args.item.push c.self.inside.rows.items c.in-Some.at c.index_mut-row.result.now
    at.1 c.index_mut-row.ensures.value
    (subst (IsShut c.args.item.push) (ap (λ b. b.rows) (sym c.self.view_is)) shut))

pub returns-clause-pushes : goal.returns-clause-pushes
returns-clause-pushes g c =
    same_openings _ c.args.self.now _ c.self.view_is refl refl refl
    (pushes_set c.self.inside.rows.items c.in-Some.at c.index_mut-row.result.now c.step_row.new.row
    c.index_mut-row.ensures.value c.step_row.ensures.steps.push)

pub returns-clause-holds : goal.returns-clause-holds
returns-clause-holds g c = λ first h holds.
    let at = c.in-Some.ensures.some in
    step_taken run_push first h c.args.self.now _ c.self.inside.rows.items c.args.item.push c.args.item.index
    c.args.item.what c.step_row.result c.in-Some.at c.index_mut-row.result.now c.step_row.new.row
    (ap (λ b. b.rows) c.self.view_is) refl (ap (λ b. b.first_push) c.self.view_is)
    (ap (λ b. b.next) c.self.view_is)
    (subst (λ b. AreRows (is_between b.first_push b.next) c.self.inside.rows.items) c.self.view_is
    c.self.invariant.0) at.1 c.index_mut-row.ensures.value
    (rw (← c.self.view_is) c.step_row.ensures.steps) holds
