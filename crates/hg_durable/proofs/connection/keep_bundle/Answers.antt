use Rattle.std.proofs.Common.{◌≡◌, ◌≤◌, ◌-◌, List, Option, refl, sym, ◌∙◌, ap, subst}
use Rattle.std.specs.Prelude.{IfSome, option_to_list}
use Rattle.hg_parts.specs.declared.item.Taken.{Taken}
use Rattle.hg_push.specs.Places.{RestsOn}
use Rattle.hg_push.specs.Run.{run_push}
use Rattle.hg_serve.specs.Answers.{Answers}
use Rattle.hg_serve.specs.Histories.{newest_first}
use Rattle.hg_commit.specs.Clients.{KeptSeen}
use Rattle.hg_commit.specs.Orders.{HasGrown, ReceiptView}
use Rattle.hg_commit.specs.Records.{IsRecordOf}
use Rattle.hg_connection.proofs.CallerLemmas.{bundle_reply_short}
use Rattle.hg_durable.specs.Kept.{IsKeptOrNot, KeptExchange, OpenedView, record_of}
use Rattle.hg_durable.proofs.Exchanges.{answered, client_of, granted, handed, hands_in, kept_on, kept_or_not, may_be_told, recorded, rested}
use Rattle.hg_durable.proofs.connection.keep_bundle.Goals as goal
use Rattle.hg_store.specs.Entries.{Entry}

pub keep-kept-requires-clause-bundle : goal.keep-kept-requires-clause-bundle
keep-kept-requires-clause-bundle g c =
    let server = c.args.keeping.now.server.now in
    let r = c.receive_kept-ending.ensures.received in
    let m = c.mark-ended.ensures in
    let a = c.answer_resting-answer.ensures in
    let first = g.J.Naming.first in
    let after = c.answer_resting-answer.result.2 in
    let rests = c.answer_resting-answer.result.1 in
    let seen : after ≡ c.of-client.result.history = sym (ap (λ (v : KeptSeen g.row.A.Denot). v.history)
    c.of-client.ensures) in
    subst (λ (y : Option Entry × List (Taken g.row.A.Denot)). IfSome y.0 (λ entry. (1 ≤ rests)
    × IsRecordOf first y.1 (rests - 1) entry)) (λ i. (sym c.record_of-record.ensures i, seen i))
    (handed server g.J.Naming.capacity first c.args.inbox.now c.receive_kept-ending.new.inbox _ _
    c.opened.inside.sender c.receive_kept-ending.new.sender c.receive_kept-ending.result
    (g.K.Keep.kept c.receive_kept-ending.new.kept) c.mark-ended.result c.answer_resting-answer.result.0.takes after
    rests r m c.limits-limits.ensures.first c.answer_resting-answer.result.0.outcome a.answers a.rests c.args.stamp)

pub returns-clause-kept : goal.returns-clause-kept
returns-clause-kept g c =
    let server = c.args.keeping.now.server.now in
    let r = c.receive_kept-ending.ensures.received in
    let m = c.mark-ended.ensures in
    let a = c.answer_resting-answer.ensures in
    let k = c.keep-kept.ensures in
    let first = g.J.Naming.first in
    let capacity = g.J.Naming.capacity in
    let how = c.answer_resting-answer.result.0.outcome in
    let takes = c.answer_resting-answer.result.0.takes in
    let rests = c.answer_resting-answer.result.1 in
    let client : KeptSeen g.row.A.Denot = c.of-client.result in
    let after : KeptSeen g.row.A.Denot = client_of c.keep-kept.result in
    let e = c.mark-ended.result in
    let beats = c.args.keeping.now.ledger.now.has_beats in
    let gets = granted g.D.Device.seen g.D.Device.may_leave g.D.Device.moment g.J.Storing.head g.J.Storing.stored first
    client rests (option_to_list c.record_of-record.result) beats c.keep-kept.result k.kept k.failed in
    let seen : c.answer_resting-answer.result.2 ≡ after.history = sym (gets.same
    ∙ ap (λ (v : KeptSeen g.row.A.Denot). v.history) c.of-client.ensures) in
    let receipt = ap (λ (v : KeptSeen g.row.A.Denot). v.receipt) c.of-client.ensures in
    let asked = receipt ∙ ap (λ (o : OpenedView g.row.A.Denot). o.client.receipt) c.opened.view_is in
    let entries = ap option_to_list (c.record_of-record.ensures ∙ hands_in server capacity first c.args.inbox.now
    c.receive_kept-ending.new.inbox _ _ c.opened.inside.sender c.receive_kept-ending.new.sender
    c.receive_kept-ending.result (g.K.Keep.kept c.receive_kept-ending.new.kept) e takes
    c.answer_resting-answer.result.2 rests r m c.limits-limits.ensures.first how a.answers c.args.stamp) in
    let answers = subst (λ (h : List (Taken g.row.A.Denot)). Answers capacity first e.push e.put e.history how takes h)
    seen a.answers in
    let on = subst (λ (h : List (Taken g.row.A.Denot)). RestsOn run_push first (newest_first h) e.push how rests) seen
    a.rests in
    let put = answered server capacity first c.args.inbox.now c.receive_kept-ending.new.inbox _ _
    c.opened.inside.sender c.receive_kept-ending.new.sender c.receive_kept-ending.result
    (g.K.Keep.kept c.receive_kept-ending.new.kept) e takes after.history rests r m c.limits-limits.ensures.first how answers in
    let x : KeptExchange g.row.A.Denot = record {
      reads = r.is.bundle.reads;
      consumed = r.is.bundle.consumed;
      rest = r.is.bundle.rest;
      ending = c.receive_kept-ending.result;
      parts = r.is.parts;
      push = c.opened.inside.sender.putter.push;
      how = how;
      takes = takes;
      rests = rests;
      handed = option_to_list (record_of how (record { stamp = c.args.stamp; bundle = r.is.bundle.consumed }));
      after = after;
    } in (
      x,
      kept_on server capacity first c.args.inbox.now c.receive_kept-ending.new.inbox _ _ _ c.args.opened c.args.stamp x
          c.opened.view_is (record {
            hands_in = refl;
            is = record {
              received = r.is.bundle.received;
              fresh = c.opened.invariant.1;
              answers = put;
              rests_on = rested server capacity first c.args.inbox.now c.receive_kept-ending.new.inbox _ _
                  c.opened.inside.sender c.receive_kept-ending.new.sender c.receive_kept-ending.result
                  (g.K.Keep.kept c.receive_kept-ending.new.kept) e takes after.history rests r m
                  c.limits-limits.ensures.first how on;
              recorded = recorded server capacity first c.args.inbox.now c.receive_kept-ending.new.inbox
                  _ _ c.opened.inside.sender c.receive_kept-ending.new.sender c.receive_kept-ending.result
                  (g.K.Keep.kept c.receive_kept-ending.new.kept) e takes after.history rests r m
                  c.limits-limits.ensures.first how answers on c.args.stamp;
              grows = subst (λ (v : ReceiptView). HasGrown v after.receipt) receipt gets.grows;
              came = gets.came ∙ ap (λ (v : ReceiptView). v.came) receipt;
              short = bundle_reply_short c.replies_are_short.ensures.done c.replies_are_short.ensures.aborted
                  c.parts_are_few.ensures server capacity first c.args.inbox.now r.is.bundle.reads
                  c.receive_kept-ending.result r.is.parts r.is.bundle.consumed r.is.bundle.rest
                  c.opened.inside.sender.putter.push c.opened.inside.sender.history how takes after.history
                  c.limits-limits.ensures.allowed r.is.bundle.received put;
            };
            own = refl;
            flows = record {
              more = r.is.bundle.more;
              spelled = r.is.bundle.spelled;
              bytes = r.is.bundle.bytes;
              told = r.is.bundle.told;
              keeps = r.is.bundle.keeps;
              ran = r.is.bundle.ran;
            };
          }),
      record {
        ending_is = refl;
        how_is = refl;
        takes_are = refl;
        rests_are = refl;
        kept_is = subst (λ (y : List Entry × ReceiptView). IsKeptOrNot g.D.Device.seen g.D.Device.may_leave
            g.D.Device.moment g.J.Storing.head g.J.Storing.stored first beats y.1 after rests y.0 c.keep-kept.result)
            (λ i. (entries i, asked i))
            (kept_or_not g.D.Device.seen g.D.Device.may_leave g.D.Device.moment g.J.Storing.head
            g.J.Storing.stored first client rests (option_to_list c.record_of-record.result) beats c.keep-kept.result
            k.kept k.beat);
      },
    )

pub returns-clause-told : goal.returns-clause-told
returns-clause-told g c =
    let s = returns-clause-kept g c in
    may_be_told g.D.Device.seen g.D.Device.may_leave g.D.Device.moment g.J.Storing.head g.J.Storing.stored
    c.args.keeping.now.server.now g.J.Naming.capacity g.J.Naming.first c.args.opened.client c.args.inbox.now s.0
    c.answer_resting-answer.result.0.outcome c.keep-kept.result c.args.keeping.now.ledger.now.has_beats
    c.args.opened.client.receipt s.1.is s.2.how_is s.2.kept_is
