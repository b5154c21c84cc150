use Rattle.std.proofs.Common.{rules, [], ◌∙◌}
use Rattle.hg_commit.specs.code.Tallies.{seat_with}
use Rattle.hg_commit.proofs.Counting.{arrive}
use Rattle.hg_commit.proofs.Seats.{came_spent, comes_of}
use Rattle.hg_commit.proofs.promises.OpenTally.come_first.Goals as goal

pub load_new_seat-count-requires : goal.load_new_seat-count-requires
load_new_seat-count-requires g c = (search rules, arrive _ (seat_with [], []))

pub invariant_of-receipt : goal.invariant_of-receipt
invariant_of-receipt g c =
    let made = c.load_new_seat-count.result.1 in
    let e = c.load_new_seat-count.ensures in
    let t = e.2.0 in (
      t.among,
      (
        e.0 ∙ c.self.invariant.0,
        c.self.invariant.2,
        e.1,
        came_spent (seat_with []) made.me.0 c.load_new_seat-count.result.0 t,
      ),
    )

pub returns : goal.returns
returns g c =
    let made = c.load_new_seat-count.result.1 in
    comes_of (seat_with []) made.me.0 c.load_new_seat-count.result.0 c.load_new_seat-count.ensures.2.0
