use Rattle.std.proofs.Common.{◌≡◌, [], ◌++◌, ◌∙◌, ◌-◌, ap, refl, sym, arith, length, take}
use Rattle.std.proofs.Common.{Some}
use Rattle.std.proofs.lemmas.List.{length-append}
use Rattle.hg_stream.specs.Unbundler.{ready_of}
use Rattle.hg_connection.proofs.ReceivingLemmas.{begins, ends_refused, ends_unfed, goes_on, not_whole, parts_few}
use Rattle.hg_connection.proofs.ReceivingLemmas.{parts_taken, turn_made, waits_on, whole_ended, within_limit}
use Rattle.hg_connection.proofs.Putting.{put_more, room_for}
use Rattle.hg_connection.proofs.Receivings.{kept_ends, starts, unready}
use Rattle.hg_connection.proofs.keeping.receive_kept.Goals as goal
use Rattle.hg_connection.proofs.keeping.receive_kept.Goals.{else-turns-test, then-turns-test+in-None+else-is_err+in-None-ended+else-turn-most}

pub turns-init : goal.turns-init
turns-init g c = record {
  fed = [];
  given = [];
  reads = begins c.args.server.now c.args.inbox.now _ c.args.bundle.now c.requires.bundle.empty
      c.requires.bundle.state c.requires.bundle.limits_are;
  kept = c.requires.kept;
  turns = omega arith;
  within = omega arith;
  put = starts c.args.sender.now c.requires.sender;
  ready = c.requires.bundle.ready;
  limits = refl;
}

pub returns-in-Some-clause-received : goal.returns-in-Some-clause-received
returns-in-Some-clause-received g c =
    let i = c.turns.invariant in
    record {
      is = record {
        parts = i.given ++ ready_of c.turns.bundle;
        bundle = ends_unfed c.args.server.now c.args.inbox.now _ i.fed c.turns.inbox c.fill.new.self _ _
            c.turns.bundle i.given c.in-Some.ending i.reads c.in-Some.ensures;
        put = unready c.args.sender.now c.turns.sender c.turns.bundle i.given i.ready i.put;
      };
      kept_is = λ whole. absurd (not_whole c.turns.inbox c.fill.new.self _ _ c.in-Some.ending
          c.in-Some.ensures whole);
    }

pub returns-in-Some-clause-whole : goal.returns-in-Some-clause-whole
returns-in-Some-clause-whole g c = λ whole. absurd (not_whole c.turns.inbox c.fill.new.self _ _
    c.in-Some.ending c.in-Some.ensures whole)

pub returns-then-is_err-clause-received : goal.returns-then-is_err-clause-received
returns-then-is_err-clause-received g c =
    let i = c.turns.invariant in
    let w = waits_on c.args.server.now c.args.inbox.now _ i.fed c.turns.inbox c.fill.new.self _ _ c.turns.bundle
    i.given i.reads c.in-None.ensures in
    record {
      is = record {
        parts = i.given ++ ready_of c.turns.bundle;
        bundle = ends_refused c.args.server.now c.args.inbox.now _ i.fed c.fill.new.self _ c.turns.bundle i.given
            w.1 w.0 c.pending.ensures.few;
        put = unready c.args.sender.now c.turns.sender c.turns.bundle i.given i.ready i.put;
      };
      kept_is = λ whole. absurd cc;
    }

pub put_ready-requires : goal.put_ready-requires
put_ready-requires g c =
    let i = c.turns.invariant in
    let w = waits_on c.args.server.now c.args.inbox.now _ i.fed c.turns.inbox c.fill.new.self _ _ c.turns.bundle
    i.given i.reads c.in-None.ensures in
    let t = turn_made c.args.server.now c.args.inbox.now _ i.fed c.fill.new.self c.feed-ended.new.self _
    c.turns.bundle c.feed-ended.new.bundle i.given c.feed-ended.result w.1 w.0 c.feed-ended.ensures.feeds
    c.feed-ended.ensures.result in
    room_for c.args.sender.now c.turns.sender i.given (ready_of c.feed-ended.new.bundle) c.args.server.now.parts
    i.put
    (parts_few c.parts_are_few.ensures c.args.server.now c.args.inbox.now _ i.fed c.feed-ended.new.self _
    c.feed-ended.new.bundle i.given c.feed-ended.result t)
    c.limits.ensures.allowed.parts.1

pub turns-preserved : goal.turns-preserved
turns-preserved g c =
    let i = c.turns.invariant in
    let p = c.put_ready.ensures in
    let w = waits_on c.args.server.now c.args.inbox.now _ i.fed c.turns.inbox c.fill.new.self _ _ c.turns.bundle
    i.given i.reads c.in-None.ensures in
    let on = goes_on c.args.server.now c.args.inbox.now _ i.fed c.fill.new.self c.feed-ended.new.self _
    c.turns.bundle c.feed-ended.new.bundle i.given w.1 c.feed-ended.ensures.feeds
    (sym c.in-None-ended.is ∙ c.feed-ended.ensures.result) in
    let e = c.keep.ensures in
    let v = c.is_err.ensures.value in
    let f = c.if-is_err.false in
    let b = c.pending.ensures.bytes in
    let k = i.kept in
    record {
      fed = i.fed ++ c.fill.new.self;
      given = i.given ++ ready_of c.feed-ended.new.bundle;
      reads = parts_taken c.args.server.now c.args.inbox.now _ (i.fed ++ c.fill.new.self) c.feed-ended.new.self _
          c.feed-ended.new.bundle c.put_ready.new.bundle i.given (ready_of c.feed-ended.new.bundle) on.1 p.holds
          p.bundle.0 p.limits;
      kept = grind arith;
      turns = omega (arith, i.turns, w.0, length-append i.fed c.fill.new.self);
      within = within_limit c.args.server.now c.args.inbox.now _ (i.fed ++ c.fill.new.self)
          c.feed-ended.new.self _ c.feed-ended.new.bundle i.given on.1;
      put = put_more c.args.sender.now c.turns.sender c.put_ready.new.sender i.given
          (ready_of c.feed-ended.new.bundle) i.put p.put;
      ready = p.bundle.1;
      limits = p.limits ∙ c.feed-ended.ensures.feeds.limits ∙ i.limits;
    }

pub returns-in-Some-ended-clause-received : goal.returns-in-Some-ended-clause-received
returns-in-Some-ended-clause-received g c =
    let i = c.turns.invariant in
    let p = c.put_ready.ensures in
    let w = waits_on c.args.server.now c.args.inbox.now _ i.fed c.turns.inbox c.fill.new.self _ _ c.turns.bundle
    i.given i.reads c.in-None.ensures in
    let e = c.keep.ensures in
    let v = c.is_err.ensures.value in
    let f = c.if-is_err.false in
    let b = c.pending.ensures.bytes in
    let k = i.kept in
    let all : g.K.Keep.kept c.keep.new.self ≡ i.fed ++ c.fill.new.self = grind arith in
    let q = c.pending-in-Some-ended.ensures.bytes in
    let t = c.drop_last.ensures in
    let cut : g.K.Keep.kept c.drop_last.new.self
    ≡ take (length (i.fed ++ c.fill.new.self) - length c.feed-ended.new.self) (i.fed ++ c.fill.new.self) =
    grind arith in
    kept_ends c.args.server.now c.args.inbox.now _ i.fed c.fill.new.self c.feed-ended.new.self _ _
    c.args.sender.now c.put_ready.new.sender c.turns.bundle c.feed-ended.new.bundle i.given c.in-Some-ended.ending
    w.1 w.0 c.feed-ended.ensures.feeds (sym c.in-Some-ended.is ∙ c.feed-ended.ensures.result)
    (put_more c.args.sender.now c.turns.sender c.put_ready.new.sender i.given
    (ready_of c.feed-ended.new.bundle) i.put p.put) cut

pub returns-in-Some-ended-clause-whole : goal.returns-in-Some-ended-clause-whole
returns-in-Some-ended-clause-whole g c = λ whole. (
  c.put_ready.ensures.bundle.0 ∙ whole_ended _ _ c.feed-ended.ensures.result (c.in-Some-ended.is
      ∙ ap (λ x. Some x) whole),
  c.put_ready.ensures.bundle.1,
)

pub returns-in-Some-ended-clause-limits : goal.returns-in-Some-ended-clause-limits
returns-in-Some-ended-clause-limits g c =
    c.put_ready.ensures.limits ∙ c.feed-ended.ensures.feeds.limits ∙ c.turns.invariant.limits

pub unreachable-requires : goal.unreachable-requires
unreachable-requires g c =
    let i = c.turns.invariant in
    let same = c.limits.ensures.value in
    let end = c.turns.auto._turn-end in
    let so_far = i.turns in
    elim c.turns-test.branch [
      | else-turns-test w ↦ omega (arith, end, w.turns-test.false)
      | then-turns-test+in-None+else-is_err+in-None-ended+else-turn-most w ↦ (
          let n = waits_on c.args.server.now c.args.inbox.now _ i.fed c.turns.inbox w.fill.new.self _ _
          c.turns.bundle i.given i.reads w.in-None.ensures in
          let on = goes_on c.args.server.now c.args.inbox.now _ i.fed w.fill.new.self w.feed-ended.new.self _
          c.turns.bundle w.feed-ended.new.bundle i.given n.1 w.feed-ended.ensures.feeds
          (sym w.in-None-ended.is ∙ w.feed-ended.ensures.result) in
          let within = within_limit c.args.server.now c.args.inbox.now _ (i.fed ++ w.fill.new.self)
          w.feed-ended.new.self _ w.feed-ended.new.bundle i.given on.1 in
          let long = length-append i.fed w.fill.new.self in
          let some = n.0 in
          grind arith)
    ]
