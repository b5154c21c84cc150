use Rattle.std.proofs.Common.{sym, ap, ◌∙◌, is_some}
use Rattle.hg_obs.proofs.PlaceLemmas.{noted_new}
use Rattle.hg_obs.proofs.markers.note.Goals as goal

pub returns-clause-found : goal.returns-clause-found
returns-clause-found g c = λ node.
    noted_new c.args.places.now.entries c.insert.new.self.entries c.args.id c.args.place node
    (ap is_some (sym c.get.ensures.value ∙ sym c.copied.ensures ∙ c.in_default.is))
    (c.in_ok-insert.ensures.updates.0 node)
