use Rattle.hg_tcp.proofs.Closed.{closes}
use Rattle.hg_tcp.proofs.serve.serve_named.Goals as goal

pub returns : goal.returns
returns g c =
    closes c.args.repo _ _ c.args.terms _ _ _ _ _ _ _ _ _ _ _ c.close-closed.result.taker
    c.new-service.result _ _ _ c.accept_all-failed.result.0 c.missed_memory-missed.result
    c.lacks_memory-no_memory.result c.count.result c.into_parts-server.result.1 c.requires.begins.named
    c.requires.terms.0 c.requires.terms.1 c.close-closed.ensures.serial
    c.close-closed.ensures.legal c.as_slice.ensures.value
    c.send_closing-sending.ensures c.end_status.ensures c.close-closed.ensures.taker c.hear_end.ensures.heard
    c.close-closed.ensures.served c.close-closed.ensures.earlier c.count.ensures c.lacks_memory-no_memory.ensures
    c.new-service.ensures c.accept_all-failed.ensures c.hear_end.ensures.told
