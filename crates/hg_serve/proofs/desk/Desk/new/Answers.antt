use Rattle.hg_serve.proofs.Orders.{in_order_new}
use Rattle.hg_serve.proofs.desk.Desk.new.Goals as goal

pub invariant_of-result : goal.invariant_of-result
invariant_of-result g c =
    in_order_new _ _ _ c.args.repo _ c.args.taker c.requires.taker c.requires.empty.0 c.requires.empty.1
    c.requires.repo c.new.ensures.holds
