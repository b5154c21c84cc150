use Rattle.std.proofs.Common.{is_ok}
use Rattle.hg_tcp.specs.Served.{WasServed}
use Rattle.hg_tcp.proofs.ServedLemmas.{all_kept}
use Rattle.hg_tcp.proofs.clients.ServedClients.add.Goals as goal

pub invariant_of-self : goal.invariant_of-self
invariant_of-self g c =
    all_kept (WasServed g.J.Naming.capacity g.J.Naming.first g.J.ServiceNaming.bundles) (is_ok c.push.result) _ _ _
    c.push.ensures.items c.self.invariant c.requires
