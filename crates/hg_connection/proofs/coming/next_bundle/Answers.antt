use Rattle.hg_connection.proofs.Receivings.{next_comes}
use Rattle.hg_connection.proofs.coming.next_bundle.Goals as goal

pub returns-in-None : goal.returns-in-None
returns-in-None g c = next_comes c.args.inbox.now c.fill.new.self _ _ c.args.number c.if-number-eq0.false
    c.in-None.ensures c.pending-waiting-in-None.ensures.few
