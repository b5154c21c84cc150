use Rattle.hg_queue.specs.Words.{history}
use Rattle.hg_serve.specs.Histories.{newest_first}
use Rattle.hg_serve.proofs.Orders.{keeps}
use Rattle.hg_serve.proofs.desk.Desk.keep.Goals as goal

pub invariant_of-self-2 : goal.invariant_of-self-2
invariant_of-self-2 g c =
    let o = c.self.invariant in
    let e = c.in_ok-number.ensures in
    keeps _ _ _ c.self.inside.book c.open.new.self c.self.inside.taker c.self.inside.kept
    c.in_ok-number.number e.ok e.opened
    (e.holds _ (newest_first (history c.self.inside.taker)) o.held) o
