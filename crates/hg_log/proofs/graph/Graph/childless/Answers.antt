use Rattle.hg_log.proofs.Counted.{childless_each}
use Rattle.hg_log.proofs.graph.Graph.childless.Goals as goal

pub returns : goal.returns
returns g c =
    let graph = c.self.inside.family in
    let counts = c.self.inside.children in
    rw (← c.self.view_is) (record {
      each = λ row. let a = c.childless.ensures.each row in
          let b = childless_each graph counts row c.self.invariant in
          ((λ has. b.0 (a.0 has)), (λ none. a.1 (b.1 none)));
      distinct = c.childless.ensures.distinct;
    })
