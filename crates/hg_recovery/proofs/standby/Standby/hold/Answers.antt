use Rattle.std.proofs.Common.{ap}
use Rattle.hg_store.specs.Calls.{bytes_in}
use Rattle.hg_recovery.specs.Opening.{setup_for}
use Rattle.hg_recovery.proofs.Following.{followed_still}
use Rattle.hg_recovery.proofs.standby.Standby.hold.Goals as goal

pub returns-in-Ok-clause-ok : goal.returns-in-Ok-clause-ok
returns-in-Ok-clause-ok g c =
    followed_still (λ f. bytes_in f.pieces.events) c.args.self.now.publishing c.args.self.now.opening
    c.hold_store.new.opening c.args.self.now.repo c.requires
    (c.hold_store.ensures.read (setup_for c.args.self.now.publishing) c.requires.read)
    (ap (λ r. r.entries) c.hold_store.ensures.records.0)

pub returns-in-Err-clause-ok : goal.returns-in-Err-clause-ok
returns-in-Err-clause-ok g c =
    followed_still (λ f. bytes_in f.pieces.events) c.args.self.now.publishing c.args.self.now.opening
    c.hold_store.new.opening c.args.self.now.repo c.requires
    (c.hold_store.ensures.read (setup_for c.args.self.now.publishing) c.requires.read)
    (ap (λ r. r.entries) c.hold_store.ensures.records.0)
