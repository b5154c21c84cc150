use Rattle.hg_host.proofs.Fronts.{closes_front}
use Rattle.hg_host.proofs.service.HostService.close.Goals as goal

pub returns-clause-left : goal.returns-clause-left
returns-clause-left g c =
    closes_front c.args.clients.items c.join.new.items.items c.join.ensures c.close_kept.ensures.left
