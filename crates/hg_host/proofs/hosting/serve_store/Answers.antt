use Rattle.hg_host.proofs.hosting.serve_store.Goals as goal

pub returns : goal.returns
returns g c = (_, c.host_named.ensures)
