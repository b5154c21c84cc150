use Rattle.hg_connection.proofs.Filling.{fill_ends, filled}
use Rattle.hg_connection.proofs.Feeding.{turned}
use Rattle.hg_connection.proofs.receiving.read_on.Goals as goal

pub returns-in-Some-clause-turns : goal.returns-in-Some-clause-turns
returns-in-Some-clause-turns g c = λ limits waited input fed given r.
    fill_ends limits waited input fed c.args.inbox.now c.fill.new.self _ _ c.args.bundle.now given
    c.in-Some.ending r c.in-Some.ensures

pub returns-in-None-clause-turns : goal.returns-in-None-clause-turns
returns-in-None-clause-turns g c = λ limits waited input fed given r.
    let w = filled limits waited input fed c.args.inbox.now c.fill.new.self _ _ c.args.bundle.now given r
    c.in-None.ensures in
    turned limits waited input fed c.fill.new.self c.feed.new.self _ c.args.bundle.now c.feed.new.bundle given
    c.feed.result w.1 w.0 c.feed.ensures.feeds c.feed.ensures.result
