use Rattle.std.proofs.Common.{rules, ◌∙◌, ap, refl, arith}
use Rattle.std.proofs.Math.Seq.{take-length}
use Rattle.hg_parts.specs.Repository.{Repository}
use Rattle.hg_parts.specs.Store.{repository_of}
use Rattle.hg_parts.specs.parts.Pushkey.{handle_pushed}
use Rattle.hg_parts.proofs.Numbers.{key_done}
use Rattle.hg_parts.proofs.parts.pushkey.handle_call.Goals as goal

pub returns : goal.returns
returns g c =
    let turn = c.args.turn in
    let repo : Repository g.row.A.Denot = repository_of turn.settings c.args.store.now in
    record {
      sound = search rules;
      grown = record {
        rows_within = omega arith;
        rows_front = take-length c.args.store.now.log.rows;
        limits = refl;
        markers_within = c.push_key.ensures.within;
        markers_front = c.push_key.ensures.front;
        phases_saved = c.push_key.ensures.phases_saved;
        bookmarks_saved = c.push_key.ensures.bookmarks_saved;
      };
      reply = c.in_ok-reply.ensures.reply;
      gives = ap (handle_pushed repo turn.replying turn.place c.args.part.now c.args.call) c.in-Ok.ensures.done
          ∙ key_done repo turn.replying turn.place c.args.part.now c.args.call
          (record {
            phases = c.push_key.new.phases.current.phases;
            markers = c.push_key.new.markers;
            bookmarks = c.push_key.new.bookmarks.current;
          }) c.in-Ok.done c.in_ok-reply.reply
          c.is_refused.ensures c.if-is_refused.false c.in_ok-reply.ensures.value;
    }
