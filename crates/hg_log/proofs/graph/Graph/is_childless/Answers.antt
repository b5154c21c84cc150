use Rattle.hg_log.proofs.Counted.{childless_each}
use Rattle.hg_log.proofs.graph.Graph.is_childless.Goals as goal

pub returns : goal.returns
returns g c =
    let each = childless_each c.self.inside.family c.self.inside.children c.args.row
    c.self.invariant in
    let told = c.is_childless.ensures in
    rw (← c.self.view_is) ((λ is. each.0 (told.0 is)), (λ free. told.1 (each.1 free)))
