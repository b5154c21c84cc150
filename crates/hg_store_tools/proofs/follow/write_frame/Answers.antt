use Rattle.std.proofs.Common.{subst}
use Rattle.std.proofs.lemmas.Result.{MatchResult-weaker, on_ok_weaker}
use Rattle.std.specs.Prelude.{OnOk}
use Rattle.hg_store_tools.specs.Logging.{LogForm, formed_bytes}
use Rattle.hg_store_tools.specs.Trails.{SendsFrame, SendsNoFrame}
use Rattle.hg_store_tools.proofs.Followings.{frame_sent, frame_unsent}
use Rattle.hg_store_tools.proofs.follow.write_frame.Goals as goal

pub returns-in-Ok-clause-ok : goal.returns-in-Ok-clause-ok
returns-in-Ok-clause-ok g c =
    let A = g.row.A.Denot in
    let log : LogForm = record {
      limits = c.log.inside.limits;
      from = c.log.inside.from;
      form = c.log.inside.form;
    } in
    let before = (g.W.Writer.told c.args.writer.now).taken in
    let after = (g.W.Writer.told c.send_frame.new.writer).taken in
    subst (λ (l : LogForm). OnOk c.send_frame.result (SendsFrame A l c.args.place c.args.entry.now before after))
    c.log.view_is
    (on_ok_weaker c.send_frame.result
    (λ sent. frame_sent A log c.args.place c.args.entry.now c.stamp.result.now c.bundle.result.now
    (formed_bytes c.in-Ok.bundle) c.bytes.result.now before after c.if-place-log.false c.stamp.ensures c.bundle.ensures
    c.in-Ok.ensures.ok c.bytes.ensures sent) c.send_frame.ensures.ok)

pub returns-in-Ok-clause-err : goal.returns-in-Ok-clause-err
returns-in-Ok-clause-err g c =
    let A = g.row.A.Denot in
    let log : LogForm = record {
      limits = c.log.inside.limits;
      from = c.log.inside.from;
      form = c.log.inside.form;
    } in
    let before = (g.W.Writer.told c.args.writer.now).taken in
    let after = (g.W.Writer.told c.send_frame.new.writer).taken in
    MatchResult-weaker c.send_frame.result c.send_frame.ensures.err (λ _ _. tt)
    (λ fault out.
    subst (λ (l : LogForm). SendsNoFrame A l c.args.place c.args.entry.now fault before after) c.log.view_is
    (frame_unsent A log c.args.place c.args.entry.now c.stamp.result.now c.bundle.result.now
    (formed_bytes c.in-Ok.bundle) c.bytes.result.now before after c.if-place-log.false c.stamp.ensures c.bundle.ensures
    c.in-Ok.ensures.ok c.bytes.ensures fault out))
