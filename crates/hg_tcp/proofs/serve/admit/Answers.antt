use Rattle.hg_tcp.proofs.Admitting.{accepted}
use Rattle.hg_tcp.proofs.serve.admit.Goals as goal

pub returns-in-Some : goal.returns-in-Some
returns-in-Some g c =
    accepted _ (g.D.Acceptor.told c.accept.new.self) _ c.args.service.now c.start.result c.in-Some.ensures
    c.start.ensures
