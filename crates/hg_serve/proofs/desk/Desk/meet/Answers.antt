use Rattle.std.proofs.Common.{◌∙◌}
use Rattle.hg_serve.proofs.Orders.{history_items}
use Rattle.hg_serve.proofs.desk.Desk.meet.Goals as goal

pub returns-clause-known : goal.returns-clause-known
returns-clause-known g c =
    let l = c.hear.ensures in
    record {
      items = l.fact.0;
      stands = l.fact.1;
      taken = history_items c.hear.new.taker;
      room = l.taker.0.room ∙ c.requires.queue.1;
    }
