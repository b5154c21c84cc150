use Rattle.std.proofs.Common.{arith, sym, subst, ◌∙◌, true, false, ◌≡◌}
use Rattle.hg_push.specs.Run.{run_push}
use Rattle.hg_push.specs.Book.{HoldsHistory, is_between, is_opened}
use Rattle.hg_push.proofs.Finding.{found_within}
use Rattle.hg_push.proofs.Standings.{row_tells, journal_tells, not_unknown}
use Rattle.hg_push.proofs.Searching.{rows_in_order}
use Rattle.hg_push.proofs.book.Book.standing.Goals as goal

pub place_of-requires : goal.place_of-requires
place_of-requires g c = rows_in_order (is_between c.self.inside.first_push c.self.inside.next) c.self.inside.rows.items
    c.self.invariant.0

pub index-requires : goal.index-requires
index-requires g c =
    omega (
      arith,
      c.self.inside.rows.ok.0,
      found_within _ c.self.inside.rows.items c.in-Some.at (sym c.in-Some.ensures),
    )

pub returns-in-Some-clause-unknown : goal.returns-in-Some-clause-unknown
returns-in-Some-clause-unknown g c = λ unknown.
    not_unknown c.self.inside.first_push c.self.inside.next c.args.push (omega (arith, c.if-push-self.false))
    (omega (arith, c.if-push-self-2.false))
    (subst (λ b. is_opened b c.args.push ≡ false) (sym c.self.view_is) unknown)

pub returns-then-has_push-clause-unknown : goal.returns-then-has_push-clause-unknown
returns-then-has_push-clause-unknown g c = λ unknown.
    not_unknown c.self.inside.first_push c.self.inside.next c.args.push (omega (arith, c.if-push-self.false))
    (omega (arith, c.if-push-self-2.false))
    (subst (λ b. is_opened b c.args.push ≡ false) (sym c.self.view_is) unknown)

pub returns-else-has_push-clause-unknown : goal.returns-else-has_push-clause-unknown
returns-else-has_push-clause-unknown g c = λ unknown.
    not_unknown c.self.inside.first_push c.self.inside.next c.args.push (omega (arith, c.if-push-self.false))
    (omega (arith, c.if-push-self-2.false))
    (subst (λ b. is_opened b c.args.push ≡ false) (sym c.self.view_is) unknown)

pub returns-in-Some-clause-opened : goal.returns-in-Some-clause-opened
returns-in-Some-clause-opened g c = λ first h holds opened.
    c.row_standing.ensures ∙ row_tells run_push first h _ c.args.push c.in-Some.at _
    (subst (λ b. HoldsHistory run_push first h b) (sym c.self.view_is) holds)
    (subst (λ b. is_opened b c.args.push ≡ true) (sym c.self.view_is) opened)
    (sym c.in-Some.ensures) c.index.ensures

pub returns-then-has_push-clause-opened : goal.returns-then-has_push-clause-opened
returns-then-has_push-clause-opened g c = λ first h holds opened.
    (journal_tells run_push first h _ c.args.push
    (subst (λ b. HoldsHistory run_push first h b) (sym c.self.view_is) holds)
    (subst (λ b. is_opened b c.args.push ≡ true) (sym c.self.view_is) opened)
    (sym c.in-None.ensures)).0
    (sym (rw c.as_slice.ensures.value at c.if-has_push.ensures))

pub returns-else-has_push-clause-opened : goal.returns-else-has_push-clause-opened
returns-else-has_push-clause-opened g c = λ first h holds opened.
    (journal_tells run_push first h _ c.args.push
    (subst (λ b. HoldsHistory run_push first h b) (sym c.self.view_is) holds)
    (subst (λ b. is_opened b c.args.push ≡ true) (sym c.self.view_is) opened)
    (sym c.in-None.ensures)).1
    (sym (rw c.as_slice.ensures.value at c.if-has_push.ensures))
