use Rattle.std.proofs.Common.{rules, [], ◌∙◌}
use Rattle.hg_commit.specs.code.Tallies.{seat_with}
use Rattle.hg_commit.proofs.Counting.{ask_new}
use Rattle.hg_commit.proofs.Seats.{asked_spent, asks_of}
use Rattle.hg_commit.proofs.promises.OpenTally.ask_first.Goals as goal

pub load_new_seat-begun-requires : goal.load_new_seat-begun-requires
load_new_seat-begun-requires g c = (search rules, ask_new _ (seat_with [], []))

pub invariant_of-receipt : goal.invariant_of-receipt
invariant_of-receipt g c =
    let made = c.load_new_seat-begun.result.1 in
    let e = c.load_new_seat-begun.ensures in
    let t = e.2.0 in (
      t.among,
      (
        e.0 ∙ c.self.invariant.0,
        c.self.invariant.2,
        e.1,
        asked_spent (seat_with []) made.me.0 c.load_new_seat-begun.result.0 t,
      ),
    )

pub returns : goal.returns
returns g c =
    let made = c.load_new_seat-begun.result.1 in
    asks_of (seat_with []) made.me.0 c.load_new_seat-begun.result.0 c.load_new_seat-begun.ensures.2.0
