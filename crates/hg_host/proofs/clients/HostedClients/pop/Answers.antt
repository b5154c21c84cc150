use Rattle.std.proofs.Common.{Global}
use Rattle.std.proofs.lemmas.List.Elements.{All-pop}
use Rattle.hg_commit.specs.Clients.{IsKept, KeptSeen}
use Rattle.hg_host.specs.Serving.{WasHosted}
use Rattle.hg_host.proofs.clients.HostedClients.pop.Goals as goal

pub invariant_of-self : goal.invariant_of-self
invariant_of-self g c =
    let Each : KeptSeen Global → Type 0 = WasHosted g.J.Naming.capacity g.J.Naming.first g.J.Storing.head
    g.J.Storing.stored (IsKept g.D.Device.seen g.D.Device.may_leave g.D.Device.moment g.J.Storing.head
    g.J.Storing.stored g.J.Naming.first) g.S.Shown.is_page g.S.Shown.are_metrics g.J.Storing.beats in
    (All-pop Each _ _ _ c.pop.ensures.items c.self.invariant).0
