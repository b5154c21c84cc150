use Rattle.std.proofs.Common.{◌≡◌, ◌⊎◌, Ok, Err, rules, ap, subst, ◌∙◌}
use Rattle.hg_log.specs.declared.add.AddFault.TheVariants.{NoMemory}
use Rattle.hg_keys.specs.Bookmarks.{Saved}
use Rattle.hg_parts.specs.Repository.{Repository}
use Rattle.hg_parts.specs.declared.store.Store.{Store}
use Rattle.hg_parts.specs.Store.{IsGrown, repository_of}
use Rattle.hg_parts.specs.parts.Changegroup.{add_each}
use Rattle.hg_parts.specs.code.Changegroup.{grown_of}
use Rattle.hg_parts.proofs.Adding.{entries_done, entries_refused}
use Rattle.hg_parts.proofs.Revs.{phases_same}
use Rattle.hg_parts.proofs.parts.changegroup.handle_group.Goals as goal

pub returns : goal.returns
returns g c =
    let turn = c.args.turn in
    let repo : Repository g.row.A.Denot = repository_of turn.settings c.args.store.now in
    let added = c.add_each.new.store in
    let sound = c.in-Ok.ensures.sound in
    record {
      sound = record {
        fits = c.advance_group.ensures.fits;
        count = c.in_ok-advance_group.ensures.count;
        limits = sound.limits;
        markers = sound.markers;
        bookmarks = sound.bookmarks;
      };
      grown = search rules;
      reply = c.in_ok-reply.ensures.reply;
      gives = rw (← c.phase_for-t.ensures)
          (entries_done turn.source repo turn.replying turn.place c.args.part.now c.phase_for-t.result
          c.args.entries.now (grown_of added) c.advance_group.new.phases.current.phases added.markers
          added.bookmarks.current c.head_count-before.result c.head_count.result c.in_ok-reply.reply
          (subst (λ (s : Store g.row.A.Denot). add_each turn.settings.limits c.phase_for-t.result
          c.args.entries.now (grown_of s) ≡ Ok (grown_of added)) c.make_room.ensures c.in-Ok.ensures.gives)
          (c.in_ok-advance_group.ensures.ok ∙ phases_same turn.source c.phase_for-t.result c.args.entries.now
          c.add_each.new.entries (grown_of added) c.in-Ok.ensures.ids) (c.in-Ok.ensures.others.markers ∙ ap (λ (s : Store g.row.A.Denot). s.markers) c.make_room.ensures)
          (ap (λ (saved : Saved). saved.current)
          (c.in-Ok.ensures.others.bookmarks ∙ ap (λ (s : Store g.row.A.Denot). s.bookmarks) c.make_room.ensures))
          c.head_count-before.ensures.count c.head_count.ensures.count c.in_ok-reply.ensures.value);
    }

pub returns-in-Err : goal.returns-in-Err
returns-in-Err g c =
    let turn = c.args.turn in
    let repo : Repository g.row.A.Denot = repository_of turn.settings c.args.store.now in
    record {
      sound = tt;
      grown = subst (λ (s : Store g.row.A.Denot). IsGrown s c.add_each.new.store) c.make_room.ensures
          c.add_each.ensures.grown;
      reply = tt;
      gives = rw (c.refusal_for.ensures, ← c.phase_for-t.ensures)
          (entries_refused turn.source repo turn.replying turn.place c.args.part.now c.phase_for-t.result
          c.args.entries.now c.in-Err.fault
          (subst (λ (s : Store g.row.A.Denot). (c.in-Err.fault ≡ NoMemory) ⊎ (add_each turn.settings.limits
          c.phase_for-t.result c.args.entries.now (grown_of s) ≡ Err c.in-Err.fault)) c.make_room.ensures
          c.in-Err.ensures.gives));
    }
