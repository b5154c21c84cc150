use Rattle.std.proofs.Common.{◌+◌, ◌≤◌, ◌∷◌, ◌∙◌, [], List, ℕ, length, ap, sym, arith, length-append}
use Rattle.hg_store.specs.Files.{stored}
use Rattle.hg_store.proofs.Staying.{kept_at_first, kept_synced, only_begins}
use Rattle.hg_store.proofs.log.Log.stage.Goals as goal

pub returns-then-self-ge-MOST_BYTES-clause-front : goal.returns-then-self-ge-MOST_BYTES-clause-front
returns-then-self-ge-MOST_BYTES-clause-front g c =
    let s = c.requires.settled.2 in
    let old : List ℕ = g.D.Device.seen c.args.self.now.device in
    kept_at_first g.D.Device.moment g.D.Device.left_since g.D.Device.may_leave old c.args.self.now.device
    (g.met.D.Device.only_now c.args.self.now.device) (only_begins old _ s.durable)

pub returns-in_err-staged-clause-front : goal.returns-in_err-staged-clause-front
returns-in_err-staged-clause-front g c =
    let s = c.requires.settled.2 in
    let old : List ℕ = g.D.Device.seen c.args.self.now.device in
    let at : length old ≤ c.args.self.now.end + 1 = omega (
      arith,
      ap length s.file,
      s.place,
      length-append (stored c.requires.settled.0 c.requires.settled.1) (0 ∷ []),
    ) in
    c.write_ungated.ensures.front old at (only_begins old _ s.durable)

pub returns-in_err-sync-clause-front : goal.returns-in_err-sync-clause-front
returns-in_err-sync-clause-front g c =
    let s = c.requires.settled.2 in
    let old : List ℕ = g.D.Device.seen c.args.self.now.device in
    let at : length old ≤ c.args.self.now.end + 1 = omega (
      arith,
      ap length s.file,
      s.place,
      length-append (stored c.requires.settled.0 c.requires.settled.1) (0 ∷ []),
    ) in
    kept_synced g.D.Device.moment g.D.Device.left_since g.D.Device.may_leave old _ _ _
    (c.write_ungated.ensures.front old at (only_begins old _ s.durable)) c.sync.ensures.crash c.sync.ensures.time

pub returns-clause-front : goal.returns-clause-front
returns-clause-front g c =
    let s = c.requires.settled.2 in
    let old : List ℕ = g.D.Device.seen c.args.self.now.device in
    let at : length old ≤ c.args.self.now.end + 1 = omega (
      arith,
      ap length s.file,
      s.place,
      length-append (stored c.requires.settled.0 c.requires.settled.1) (0 ∷ []),
    ) in
    kept_synced g.D.Device.moment g.D.Device.left_since g.D.Device.may_leave old _ _ _
    (c.write_ungated.ensures.front old at (only_begins old _ s.durable)) c.sync.ensures.crash c.sync.ensures.time

pub returns-clause-durable : goal.returns-clause-durable
returns-clause-durable g c = λ left may. c.in_ok-sync.ensures.durable left may ∙ sym c.sync.ensures.seen
