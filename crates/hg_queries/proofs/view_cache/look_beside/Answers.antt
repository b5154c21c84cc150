use Rattle.std.proofs.Common.{sym, subst}
use Rattle.hg_serve.specs.Answers.{Looks}
use Rattle.hg_serve.specs.Histories.{serial_run}
use Rattle.hg_queries.specs.Growth.{IsGrown}
use Rattle.hg_wireproto.proofs.Publishing.{prefix_on}
use Rattle.hg_queries.proofs.Shelves.{grown_on, looks_on}
use Rattle.hg_queries.proofs.view_cache.look_beside.Goals as goal

pub returns-clause-looked : goal.returns-clause-looked
returns-clause-looked g c =
    let first = g.J.Naming.first in
    let law = c.repositories_grow.ensures in
    let witness = c.args.witness.now in
    let met = c.meet.new.witness in
    let after = c.look_resting-told.new.client in
    let looked = c.look_resting-told.ensures.looked in
    let repo = looked.0 in
    let look = looked.1 in (
      repo,
      subst (λ a. Looks first c.args.client.now a repo) (sym c.meet-2.ensures.same)
          (looks_on first c.args.client.now met after repo c.meet.ensures.later look),
      subst (λ r. IsGrown (serial_run first witness).repo r) look.ran
          (grown_on first law witness after (prefix_on witness met after c.meet.ensures.one look.earlier)),
      subst (λ r. IsGrown r (serial_run first c.meet-2.new.witness).repo) look.ran
          (grown_on first law after c.meet-2.new.witness c.meet-2.ensures.one),
      looked.2,
    )
