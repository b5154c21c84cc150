use Rattle.std.proofs.Common.{◌≤◌}
use Rattle.std.proofs.lemmas.List.Elements.{All-same}
use Rattle.hg_commit.specs.Lives.{IsKeptSince}
use Rattle.hg_commit.specs.Promises.{Promise}
use Rattle.hg_commit.proofs.ledger.Ledger.into_parts.Goals as goal

pub returns-clause-promises : goal.returns-clause-promises
returns-clause-promises g c =
    let parts = c.into_parts-log.result in
    All-same (λ (p : Promise). IsKeptSince g.D.Device.moment g.D.Device.left_since g.J.Storing.head g.J.Storing.stored
    g.J.Naming.first parts.3 parts.1 parts.0.device p) c.close.result.promises parts.4.promises c.close.ensures.1
    c.into_parts-log.ensures.keeper

pub returns-clause-beats : goal.returns-clause-beats
returns-clause-beats g c = λ whole.
    let parts = c.into_parts-log.result in
    All-same (λ (p : Promise). p.beats ≤ g.D.Device.beats parts.0.device) c.close.result.promises parts.4.promises
    c.close.ensures.1 (c.into_parts-log.ensures.beats whole)
