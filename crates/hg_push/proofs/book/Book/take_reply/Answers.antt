use Rattle.std.proofs.Common.{sym, ap, subst, refl, arith, ◌∙◌}
use Rattle.std.specs.Prelude.{IsSome, is_some}
use Rattle.hg_push.specs.Run.{run_push}
use Rattle.hg_push.specs.Book.{HoldsHistory, AreRows, is_between}
use Rattle.hg_push.specs.Rows.{reply_in, row_of}
use Rattle.hg_push.proofs.Taking.{book_taken, holds_taken, open_without, reply_closed, reply_is}
use Rattle.hg_push.proofs.Taking.{rows_stay_without, rows_taken}
use Rattle.hg_push.proofs.Searching.{rows_in_order}
use Rattle.hg_push.proofs.EachRow.{each_at, each_removed}
use Rattle.hg_push.proofs.book.Book.take_reply.Goals as goal

pub closed_place-requires : goal.closed_place-requires
closed_place-requires g c =
    rows_in_order (is_between c.self.inside.first_push c.self.inside.next) c.self.inside.rows.items
    c.self.invariant.0

pub returns-in_err-at-clause-answer : goal.returns-in_err-at-clause-answer
returns-in_err-at-clause-answer g c = λ first h holds has.
    c.from_residual.ensures ∙ (sym
    (rw (ap (λ b. b.rows) c.self.view_is) at c.in_err-at.ensures.none)
    ∙ reply_is run_push first h c.args.self.now c.args.push
    (subst (λ b. AreRows (is_between b.first_push b.next) b.rows) c.self.view_is c.self.invariant.0)
    holds has)

pub outcome_of-requires : goal.outcome_of-requires
outcome_of-requires g c =
    let at = c.in_ok-at.ensures.some in
    at.1.1 c.in-Some.row c.in-Some.ensures.value

pub invariant_of-self : goal.invariant_of-self
invariant_of-self g c =
    let at = c.in_ok-at.ensures.some in
    let rows = rows_taken (is_between c.self.inside.first_push c.self.inside.next) c.args.push
    c.self.inside.rows.items c.remove.new.self.items c.in_ok-at.at c.in-Some.row at.1.0
    c.in-Some.ensures.value c.self.invariant.0 c.in-Some.ensures.items in
    let count = open_without c.self.inside.rows.items c.in_ok-at.at c.in-Some.row at.0 in (
      rw rows (rows_stay_without (is_between c.self.inside.first_push c.self.inside.next) c.args.push
          c.self.inside.rows.items c.self.invariant.0),
      c.self.invariant.1,
      rw c.in-Some.ensures.items (omega (arith, count, c.self.invariant.2)),
      rw c.in-Some.ensures.items
          (each_removed _ c.self.inside.rows.items c.in_ok-at.at c.self.invariant.3),
    )

pub returns-clause-reply : goal.returns-clause-reply
returns-clause-reply g c =
    let at = c.in_ok-at.ensures.some in
    sym (ap (λ b. reply_in (row_of c.args.push b.rows)) (sym c.self.view_is)
    ∙ reply_closed c.args.push c.self.inside.rows.items c.in_ok-at.at c.in-Some.row
    c.outcome_of.result at.1.0 c.in-Some.ensures.value c.outcome_of.ensures)

pub returns-clause-some : goal.returns-clause-some
returns-clause-some g c =
    let at = c.in_ok-at.ensures.some in
    let rows = rows_taken (is_between c.self.inside.first_push c.self.inside.next) c.args.push
    c.self.inside.rows.items c.remove.new.self.items c.in_ok-at.at c.in-Some.row at.1.0
    c.in-Some.ensures.value c.self.invariant.0 c.in-Some.ensures.items in
    book_taken _ c.args.self.now _ c.args.push c.self.view_is refl rows

pub returns-clause-answer : goal.returns-clause-answer
returns-clause-answer g c = λ first h holds has.
    returns-clause-reply g c
    ∙ reply_is run_push first h c.args.self.now c.args.push
    (subst (λ b. AreRows (is_between b.first_push b.next) b.rows) c.self.view_is c.self.invariant.0) holds
    has

pub returns-clause-holds : goal.returns-clause-holds
returns-clause-holds g c = λ first h holds.
    let has : IsSome (reply_in (row_of c.args.push c.args.self.now.rows)) = ap is_some
    (sym (returns-clause-reply g c)) in
    subst (λ b. HoldsHistory run_push first h b) (sym (returns-clause-some g c))
    (holds_taken run_push first h c.args.self.now c.args.push has holds)

pub returns-clause-told : goal.returns-clause-told
returns-clause-told g c =
    let at = c.in_ok-at.ensures.some in
    let told = each_at _ c.self.inside.rows.items c.in_ok-at.at c.in-Some.row at.0
    c.in-Some.ensures.value c.self.invariant.3 in
    rw c.outcome_of.ensures at told
