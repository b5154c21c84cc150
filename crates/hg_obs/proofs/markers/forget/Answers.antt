use Rattle.std.proofs.Common.{sym, ◌∙◌}
use Rattle.hg_obs.proofs.PlaceLemmas.{forgotten_last, option_eq_some}
use Rattle.hg_obs.proofs.markers.forget.Goals as goal

pub returns-then-eq : goal.returns-then-eq
returns-then-eq g c = λ node.
    let found = sym c.get.ensures.value ∙ sym c.copied.ensures
    ∙ option_eq_some c.copied.result c.args.place (sym c.eq.ensures ∙ c.if-eq.true) in
    forgotten_last c.args.places.now.entries c.swap_remove.new.self.entries c.args.id.now
    c.args.place node found (c.swap_remove.ensures.updates.0 node)
