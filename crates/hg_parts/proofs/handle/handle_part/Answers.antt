use Rattle.std.proofs.Common.{◌≡◌, ◌∙◌, sym, ap, subst}
use Rattle.hg_parts.specs.declared.prepared.Reading.{Reading}
use Rattle.hg_parts.specs.Handled.{Outcome, HandleGives}
use Rattle.hg_parts.specs.Prepared.{handle_reading}
use Rattle.hg_parts.specs.Repository.{Repository}
use Rattle.hg_parts.specs.Store.{repository_of}
use Rattle.hg_parts.proofs.Preparing.{part_read}
use Rattle.hg_parts.proofs.handle.handle_part.Goals as goal

pub returns : goal.returns
returns g c =
    let turn = c.args.turn in
    let repo : Repository g.row.A.Denot = repository_of turn.settings c.args.store.now in
    let new : Repository g.row.A.Denot = repository_of turn.settings c.handle_reading.new.store in
    let read : handle_reading turn.source repo turn.replying turn.place c.args.part.now
    c.in_ok-reading.reading ≡ _ =
    ap (λ (told : Reading g.row.A.Denot). handle_reading turn.source repo turn.replying turn.place
    c.args.part.now told) c.in_ok-reading.ensures
    ∙ sym (part_read turn.source repo turn.replying turn.place c.args.part.now) in
    record {
      sound = c.handle_reading.ensures.sound;
      grown = c.handle_reading.ensures.grown;
      reply = c.handle_reading.ensures.reply;
      gives = subst (λ (given : Outcome g.row.A.Denot). HandleGives given new c.handle_reading.result) read
          c.handle_reading.ensures.gives;
    }
