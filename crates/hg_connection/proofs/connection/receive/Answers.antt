use Rattle.std.proofs.Common.{[], ◌++◌, ◌∙◌, ap, refl, subst, arith, Option, Some}
use Rattle.std.proofs.lemmas.List.{length-append}
use Rattle.hg_stream.specs.Unbundler.{ready_of}
use Rattle.hg_connection.specs.declared.bundle_end.BundleEnd.{BundleEnd}
use Rattle.hg_connection.specs.Turns.{Turned}
use Rattle.hg_connection.proofs.ReceivingLemmas.{begins, parts_few, parts_taken, within_limit}
use Rattle.hg_connection.proofs.Putting.{put_more, room_for}
use Rattle.hg_connection.proofs.Receivings.{starts}
use Rattle.hg_connection.proofs.connection.receive.Goals as goal
use Rattle.hg_connection.proofs.connection.receive.Goals.{else-turns-test, then-turns-test+in-None+else-turn-most}

pub turns-init : goal.turns-init
turns-init g c = record {
  fed = [];
  given = [];
  reads = begins c.args.server.now c.args.inbox.now _ c.args.bundle.now c.requires.bundle.empty
      c.requires.bundle.state c.requires.bundle.limits_are;
  turns = omega arith;
  within = omega arith;
  put = starts c.args.sender.now c.requires.sender;
  limits = refl;
}

pub put_ready-requires : goal.put_ready-requires
put_ready-requires g c =
    let i = c.turns.invariant in
    let t = c.read_on-ended.ensures.turns c.args.server.now c.args.inbox.now _ i.fed i.given i.reads in
    room_for c.args.sender.now c.turns.sender i.given (ready_of c.read_on-ended.new.bundle) c.args.server.now.parts
    i.put
    (parts_few c.parts_are_few.ensures c.args.server.now c.args.inbox.now _ i.fed c.read_on-ended.new.inbox _
    c.read_on-ended.new.bundle i.given c.read_on-ended.result t)
    c.limits.ensures.allowed.parts.1

pub turns-preserved : goal.turns-preserved
turns-preserved g c =
    let i = c.turns.invariant in
    let p = c.put_ready.ensures in
    let t = subst (λ (r : Option BundleEnd). Turned c.args.server.now c.args.inbox.now
    (g.I.Reader.told c.args.reader.now) i.fed c.read_on-ended.new.inbox
    (g.I.Reader.told c.read_on-ended.new.reader) c.read_on-ended.new.bundle i.given r) c.in-None.is
    (c.read_on-ended.ensures.turns c.args.server.now c.args.inbox.now _ i.fed i.given i.reads) in
    record {
      fed = i.fed ++ t.0;
      given = i.given ++ ready_of c.read_on-ended.new.bundle;
      reads = parts_taken c.args.server.now c.args.inbox.now _ (i.fed ++ t.0) c.read_on-ended.new.inbox _
          c.read_on-ended.new.bundle c.put_ready.new.bundle i.given (ready_of c.read_on-ended.new.bundle) t.3 p.holds
          p.bundle.0 p.limits;
      turns = omega (arith, i.turns, t.1, length-append i.fed t.0);
      within = within_limit c.args.server.now c.args.inbox.now _ (i.fed ++ t.0) c.read_on-ended.new.inbox _
          c.read_on-ended.new.bundle i.given t.3;
      put = put_more c.args.sender.now c.turns.sender c.put_ready.new.sender i.given
          (ready_of c.read_on-ended.new.bundle) i.put p.put;
      limits = p.limits ∙ c.read_on-ended.ensures.limits ∙ i.limits;
    }

pub returns-in-Some-clause-received : goal.returns-in-Some-clause-received
returns-in-Some-clause-received g c =
    let i = c.turns.invariant in
    let p = c.put_ready.ensures in
    record {
      parts = i.given ++ ready_of c.read_on-ended.new.bundle;
      bundle = subst (λ (r : Option BundleEnd). Turned c.args.server.now c.args.inbox.now
          (g.I.Reader.told c.args.reader.now) i.fed c.read_on-ended.new.inbox
          (g.I.Reader.told c.read_on-ended.new.reader) c.read_on-ended.new.bundle i.given r) c.in-Some.is
          (c.read_on-ended.ensures.turns c.args.server.now c.args.inbox.now _ i.fed i.given i.reads);
      put = put_more c.args.sender.now c.turns.sender c.put_ready.new.sender i.given
          (ready_of c.read_on-ended.new.bundle) i.put p.put;
    }

pub returns-in-Some-clause-whole : goal.returns-in-Some-clause-whole
returns-in-Some-clause-whole g c = λ whole. (
  c.put_ready.ensures.bundle.0 ∙ c.read_on-ended.ensures.whole (c.in-Some.is ∙ ap (λ x. Some x) whole),
  c.put_ready.ensures.bundle.1,
)

pub returns-in-Some-clause-limits : goal.returns-in-Some-clause-limits
returns-in-Some-clause-limits g c =
    c.put_ready.ensures.limits ∙ c.read_on-ended.ensures.limits ∙ c.turns.invariant.limits

pub unreachable-requires : goal.unreachable-requires
unreachable-requires g c =
    let i = c.turns.invariant in
    let same = c.limits.ensures.value in
    let end = c.turns.auto._turn-end in
    let so_far = i.turns in
    elim c.turns-test.branch [
      | else-turns-test w ↦ omega (arith, end, w.turns-test.false)
      | then-turns-test+in-None+else-turn-most w ↦ (
          let t = subst (λ (r : Option BundleEnd). Turned c.args.server.now c.args.inbox.now
          (g.I.Reader.told c.args.reader.now) i.fed w.read_on-ended.new.inbox
          (g.I.Reader.told w.read_on-ended.new.reader) w.read_on-ended.new.bundle i.given r) w.in-None.is
          (w.read_on-ended.ensures.turns c.args.server.now c.args.inbox.now _ i.fed i.given i.reads) in
          let within = within_limit c.args.server.now c.args.inbox.now _ (i.fed ++ t.0) w.read_on-ended.new.inbox _
          w.read_on-ended.new.bundle i.given t.3 in
          let long = length-append i.fed t.0 in
          let some = t.1 in
          grind arith)
    ]
