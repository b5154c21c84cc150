use Rattle.std.proofs.Common.{◌≡◌, [], Ok, Err, Result, ap, ◌∙◌, ◌++◌, false}
use mathlib.Core.List.{IsPrefix}
use Rattle.std.specs.Prelude.{IfOk}
use Rattle.hg_queue.specs.declared.seat.Putter.{Putter}
use Rattle.hg_queue.specs.History.{of, items_of, has}
use Rattle.hg_queue.specs.Words.{putter_view, seen}
use Rattle.hg_push.specs.declared.book.OpenFault.{OpenFault}
use Rattle.hg_serve.proofs.Waits.{fresh_of}
use Rattle.hg_serve.proofs.desk.Desk.open_for.Goals as goal

pub returns-clause-fresh : goal.returns-clause-fresh
returns-clause-fresh g c = each c.open.result c.open.ensures.fresh
  where
    m : IsPrefix (seen c.meet.new.visitor) c.meet.new.self.history
    m = (
      c.meet.ensures.earlier.0,
      ap (λ s. s ++ c.meet.ensures.earlier.0) c.meet.ensures.visitor.1
          ∙ c.meet.ensures.earlier.1,
    )

    each : (r : Result (Putter g.row.A.Denot) OpenFault)
        → IfOk r (λ p. has (putter_view p).push c.meet.new.self.taker.noted ≡ false)
        → IfOk r (λ p. of (putter_view p).push (items_of (seen c.meet.new.visitor)) ≡ [])
    each (Ok p) h = fresh_of g.J.Naming.capacity c.meet.new.self (putter_view p).push
        (seen c.meet.new.visitor) c.meet.ensures.known h m
    each (Err e) h = tt
