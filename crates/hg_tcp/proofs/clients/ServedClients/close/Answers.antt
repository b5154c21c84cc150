use Rattle.std.proofs.Common.{subst, All}
use mathlib.Core.List.{IsPrefix}
use Rattle.hg_queue.specs.Words.{history}
use Rattle.hg_tcp.specs.Served.{WasServed}
use Rattle.hg_tcp.proofs.clients.ServedClients.close.Goals as goal

pub returns-clause-served : goal.returns-clause-served
returns-clause-served g c =
    subst (λ l. All (WasServed g.J.Naming.capacity g.J.Naming.first g.J.ServiceNaming.bundles) l)
    c.self.view_is c.self.invariant

pub returns-clause-earlier : goal.returns-clause-earlier
returns-clause-earlier g c =
    subst (λ l. All (λ seen. IsPrefix seen (history c.close.result.taker)) l) c.self.view_is
    c.close.ensures.earlier
