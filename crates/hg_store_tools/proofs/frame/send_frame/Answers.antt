use Rattle.std.proofs.lemmas.Result.{MatchResult-weaker, on_ok_weaker}
use Rattle.hg_store_tools.proofs.Followings.{all_of_frame, part_of_bundle, part_of_front}
use Rattle.hg_store_tools.proofs.frame.send_frame.Goals as goal

pub returns-in-Err-sent-clause-err : goal.returns-in-Err-sent-clause-err
returns-in-Err-sent-clause-err g c =
    let out = c.in-Err-sent.ensures.err in
    let before = g.W.Writer.told c.args.writer.now in
    let after = g.W.Writer.told c.sent.new.writer in
    part_of_front c.args.place c.args.stamp.now c.args.bundle.now c.in-Ok.front.items c.deref.result.now before after
    after c.in-Ok.ensures c.deref.ensures.value c.in-Err-sent.fault out.0 out.1 out.2 out.3

pub returns-clause-ok : goal.returns-clause-ok
returns-clause-ok g c =
    let first = c.in-Ok-sent.ensures.ok in
    let before = g.W.Writer.told c.args.writer.now in
    let mid = g.W.Writer.told c.sent.new.writer in
    let after = g.W.Writer.told c.sent-2.new.writer in
    on_ok_weaker c.sent-2.result
    (λ out. all_of_frame c.args.place c.args.stamp.now c.args.bundle.now c.in-Ok.front.items c.deref.result.now before mid
    after c.in-Ok.ensures c.deref.ensures.value first.0 first.1 out.0 out.1) c.sent-2.ensures.ok

pub returns-clause-err : goal.returns-clause-err
returns-clause-err g c =
    let first = c.in-Ok-sent.ensures.ok in
    let before = g.W.Writer.told c.args.writer.now in
    let mid = g.W.Writer.told c.sent.new.writer in
    let after = g.W.Writer.told c.sent-2.new.writer in
    MatchResult-weaker c.sent-2.result c.sent-2.ensures.err (λ _ _. tt)
    (λ fault out. part_of_bundle c.args.place c.args.stamp.now c.args.bundle.now c.in-Ok.front.items c.deref.result.now
    before mid after c.in-Ok.ensures c.deref.ensures.value first.0 first.1 fault out.0 out.1 out.2 out.3)
