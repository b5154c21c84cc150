use Rattle.std.proofs.Common.{arith}
use Rattle.hg_obs.proofs.DataLaws.{found_from, fault_from}
use Rattle.hg_obs.proofs.read.read_markers.Goals as goal

pub returns-clause-found : goal.returns-clause-found
returns-clause-found g c =
    found_from c.read_all.result c.args.bytes.now (λ i. omega (arith, c.type_inv.bytes i)) c.read_all.ensures

pub returns-clause-fault : goal.returns-clause-fault
returns-clause-fault g c =
    fault_from c.read_all.result c.args.bytes.now (λ i. omega (arith, c.type_inv.bytes i)) c.read_all.ensures
