use Rattle.std.proofs.Common.{sym, ◌∙◌, ap, subst, arith, length}
use Rattle.std.specs.Vec.Iter.{into_iter_items}
use Rattle.hg_push.specs.Calls.{AreAnswers, BookFollows, after_calls}
use Rattle.hg_push.specs.Run.{run_push}
use Rattle.hg_push.proofs.Calling.{all_made, more_made, so_far_more, so_far_none}
use Rattle.hg_push.proofs.calls.make_calls.Goals as goal

pub loop-call-init : goal.loop-call-init
loop-call-init g c =
    let gives = c.into_iter-call-iterator.ensures.into_iter_gives in
    let count = ap length gives.0 in
    record {
      calls = sym gives.0;
      left = omega (arith, gives.1, count, c.args.calls.ok);
      room = omega (
        arith,
        count,
        c.args.calls.ok,
        c.len.ensures,
        c.in_ok-answers.ensures.len,
        c.in_ok-answers.ensures.capacity,
      );
      answered = λ first course follows. so_far_none run_push first course c.in_ok-answers.answers.items
          c.args.book.now c.in_ok-answers.ensures.items follows;
    }

pub loop-call-preserved : goal.loop-call-preserved
loop-call-preserved g c =
    let steps = c.in-Some.ensures.steps in
    let count = ap length steps.0 in
    record {
      calls = more_made c.args.calls.items c.loop-call.yielded (into_iter_items c.loop-call.call-iterator)
          (into_iter_items c.next.new.self) c.in-Some.call c.loop-call.invariant.calls steps.0;
      left = omega (arith, count, steps.1, c.loop-call.invariant.left);
      room = omega (
        arith,
        count,
        c.loop-call.invariant.room,
        c.push_reserved.ensures.len,
        c.push_reserved.ensures.capacity,
      );
      answered = λ first course follows.
          rw c.push_reserved.ensures.items
          (so_far_more run_push first course c.loop-call.yielded c.loop-call.answers.items
          c.loop-call.book c.make_call.new.book c.in-Some.call c.make_call.result
          (c.loop-call.invariant.answered first course follows)
          (λ so_far. c.make_call.ensures.right first _ so_far)
          (λ so_far. c.make_call.ensures.follows first _ so_far));
    }

pub returns-clause-right : goal.returns-clause-right
returns-clause-right g c = λ first course follows.
    let made = all_made c.args.calls.items c.loop-call.yielded
    (into_iter_items c.loop-call.call-iterator) c.loop-call.invariant.calls
    (sym c.loop-call.invariant.left ∙ c.in-None.ensures.steps.0) in
    subst (λ calls. AreAnswers run_push first course calls c.loop-call.answers.items) made
    (c.loop-call.invariant.answered first course follows).right

pub returns-clause-follows : goal.returns-clause-follows
returns-clause-follows g c = λ first course follows.
    let made = all_made c.args.calls.items c.loop-call.yielded
    (into_iter_items c.loop-call.call-iterator) c.loop-call.invariant.calls
    (sym c.loop-call.invariant.left ∙ c.in-None.ensures.steps.0) in
    subst (λ calls. BookFollows run_push first (after_calls course calls c.loop-call.answers.items)
    c.loop-call.book) made (c.loop-call.invariant.answered first course follows).follows
