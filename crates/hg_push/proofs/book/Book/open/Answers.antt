use Rattle.std.proofs.Common.{sym, ap, subst, refl, arith, ◌+◌}
use Rattle.hg_push.specs.Run.{run_push}
use Rattle.hg_push.specs.Book.{HoldsHistory}
use Rattle.hg_push.specs.declared.row.State.TheVariants.{Open}
use Rattle.hg_push.proofs.Opening.{holds_opened, next_is_opened, opens_from, rows_last, room_last}
use Rattle.hg_push.proofs.EachRow.{each_last}
use Rattle.hg_push.proofs.book.Book.open.Goals as goal

pub invariant_of-self-2 : goal.invariant_of-self-2
invariant_of-self-2 g c = (
  rw c.in_default-push_back.ensures.items
      (rows_last c.self.inside.first_push c.self.inside.next c.self.inside.rows.items _ c.self.invariant.1
      refl c.self.invariant.0),
  omega (arith, c.self.invariant.1),
  room_last c.self.inside.rows.items c.push_back.new.self.items _ _ _
      (c.len-places.result + 1) c.in_default-push_back.ensures.items
      (omega (arith, c.self.inside.rows.ok.0, c.len-places.ensures)) (omega (arith, c.in_default.ensures.ok)),
  rw c.in_default-push_back.ensures.items (each_last _ c.self.inside.rows.items _ c.self.invariant.3 tt),
)

pub returns-clause-opened : goal.returns-clause-opened
returns-clause-opened g c = next_is_opened c.self.inside.first_push c.self.inside.next c.self.invariant.1

pub returns-clause-holds : goal.returns-clause-holds
returns-clause-holds g c = λ first h holds.
    holds_opened run_push first h _ _ c.self.invariant.1 c.self.invariant.0
    (opens_from _ _ _ refl c.in_default.ensures.items refl refl refl refl
    (ap Open c.new.ensures) c.in_default-push_back.ensures.items)
    (subst (λ b. HoldsHistory run_push first h b) (sym c.self.view_is) holds)
