use Rattle.std.proofs.Common.{sym, subst}
use Rattle.hg_types.specs.declared.part.Part.{Part}
use Rattle.hg_parts.specs.Handled.{Outcome, HandleGives}
use Rattle.hg_parts.specs.Prepared.{handle_reading}
use Rattle.hg_parts.specs.Repository.{Repository}
use Rattle.hg_parts.specs.Store.{repository_of}
use Rattle.hg_parts.proofs.Preparing.{made_handled}
use Rattle.hg_parts.proofs.handle.handle_prepared.Goals as goal

pub returns-clause-gives : goal.returns-clause-gives
returns-clause-gives g c = λ part made.
    let repo : Repository g.row.A.Denot = repository_of c.args.turn.settings c.args.store.now in
    let new : Repository g.row.A.Denot = repository_of c.args.turn.settings c.handle_reading-handled.new.store in
    let turn = c.args.turn in
    subst (λ (given : Outcome g.row.A.Denot). HandleGives given new c.handle_reading-handled.result)
    (sym (made_handled turn.source repo turn.replying turn.place part c.args.prepared made))
    (subst (λ (kept : Part g.row.A.Denot). HandleGives
    (handle_reading turn.source repo turn.replying turn.place kept c.args.prepared.reading) new
    c.handle_reading-handled.result) c.as_part.ensures c.handle_reading-handled.ensures.gives)
