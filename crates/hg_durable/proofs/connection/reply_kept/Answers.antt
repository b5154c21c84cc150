use Rattle.std.proofs.Common.{[], refl, subst, sym}
use Rattle.std.proofs.KnownBytes.{Appends-nil}
use Rattle.hg_push.specs.Reply.{reply_of}
use Rattle.hg_connection.proofs.DeviceLemmas.{Adds-nil}
use Rattle.hg_durable.specs.Kept.{RepliesBy}
use Rattle.hg_durable.specs.declared.served.Replied.TheVariants.{NotStored}
use Rattle.hg_durable.proofs.connection.reply_kept.Goals as goal

pub returns-in-Err : goal.returns-in-Err
returns-in-Err g c =
    let out = g.W.Writer.told c.args.writer.now in
    subst (λ kept. RepliesBy g.D.Device.seen g.D.Device.may_leave g.D.Device.moment g.J.Storing.head g.J.Storing.stored
    g.J.Naming.first kept (reply_of c.args.round.now.answer.outcome) out out NotStored 0) (sym c.in-Err.is) (record {
      gone = [];
      uses = [];
      is = (refl, refl);
      written_is = refl;
      went = Appends-nil out.taken;
      used = Adds-nil out.uses;
    })
