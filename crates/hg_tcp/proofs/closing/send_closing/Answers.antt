use Rattle.hg_tcp.proofs.Closed.{nothing_sent}
use Rattle.hg_tcp.proofs.closing.send_closing.Goals as goal

pub returns-in-Err : goal.returns-in-Err
returns-in-Err g c = nothing_sent _ _
