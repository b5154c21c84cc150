use Rattle.hg_connection.specs.Devices.{TellsMore}
use Rattle.hg_tcp.specs.Accepting.{served}
use Rattle.hg_tcp.proofs.serve.admit_all.Given as goal

-- the connections so far were accepted and started
abbrev pub invariant-admitting : goal.invariant-admitting
invariant-admitting g l =
    TellsMore (g.D.Acceptor.told l.fn.door) (g.D.Acceptor.told l.door) (served l.number l.service)
