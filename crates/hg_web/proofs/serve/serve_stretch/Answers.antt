use Rattle.hg_web.proofs.serve.serve_stretch.Goals as goal

pub returns : goal.returns
returns g c = rw c.tell_refused.ensures c.converse-ended.ensures
