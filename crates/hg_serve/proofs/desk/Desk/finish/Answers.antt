use Rattle.std.proofs.Common.{◌<◌, ◌+◌, ◌-◌, ◌∷◌, [], length, ap, sym, subst, ◌∙◌, arith, length-append}
use mathlib.Core.List.{IsPrefix}
use Rattle.hg_queue.proofs.CallerLemmas.{prefix_longer}
use Rattle.hg_serve.specs.code.Waiting.{mark_place}
use Rattle.hg_serve.proofs.Orders.{same_again}
use Rattle.hg_serve.proofs.Waits.{waits, not_empty, near, none_of}
use Rattle.hg_serve.proofs.desk.Desk.finish.Goals as goal

pub unreachable-requires : goal.unreachable-requires
unreachable-requires g c =
    let a = c.requires.awaits in
    let i = c.closing.invariant in
    not_empty c.closed_pushes_have_ended.ensures g.J.Naming.first g.J.Naming.capacity c.closing.self
    c.args.push a.claim (i.same.awaited ∙ a.awaited) a.mine i.known
    (none_of _ (sym c.is_open.ensures ∙ c.closing-test.true)) c.if-not-turn.ensures.turned.2

pub overflow_add-takes : goal.overflow_add-takes
overflow_add-takes g c =
    let a = c.requires.awaits in
    let i = c.closing.invariant in
    let w = waits c.closed_pushes_have_ended.ensures g.J.Naming.first g.J.Naming.capacity c.closing.self
    c.args.push a.claim (i.same.awaited ∙ a.awaited) a.mine i.known
    (none_of _ (sym c.is_open.ensures ∙ c.closing-test.true)) in
    let n = near g.J.Naming.capacity c.args.self.now a.claim a.awaited c.requires.known in
    let small = c.requires.queue.1 in
    let counted = i.counted in
    omega arith

pub closing-smaller : goal.closing-smaller
closing-smaller g c =
    let a = c.requires.awaits in
    let i = c.closing.invariant in
    let w = waits c.closed_pushes_have_ended.ensures g.J.Naming.first g.J.Naming.capacity c.closing.self
    c.args.push a.claim (i.same.awaited ∙ a.awaited) a.mine i.known
    (none_of _ (sym c.is_open.ensures ∙ c.closing-test.true)) in
    let here = ap mark_place (i.same.awaited ∙ a.awaited) in
    let there = ap mark_place (c.if-not-turn.ensures.same.awaited ∙ (i.same.awaited ∙ a.awaited)) in
    let t = c.if-not-turn.ensures.turned in
    let long = ap length t.1 ∙ length-append c.closing.self.history (t.0 ∷ []) in
    let falls : mark_place c.turn.new.self.taker.awaited + 1 - length c.turn.new.self.history < mark_place
    c.closing.self.taker.awaited + 1 - length c.closing.self.history = omega arith in
    falls

pub closing-preserved : goal.closing-preserved
closing-preserved g c =
    let a = c.requires.awaits in
    let i = c.closing.invariant in
    let w = waits c.closed_pushes_have_ended.ensures g.J.Naming.first g.J.Naming.capacity c.closing.self
    c.args.push a.claim (i.same.awaited ∙ a.awaited) a.mine i.known
    (none_of _ (sym c.is_open.ensures ∙ c.closing-test.true)) in
    let n = near g.J.Naming.capacity c.args.self.now a.claim a.awaited c.requires.known in
    let s = c.if-not-turn.ensures.same in
    let t = c.if-not-turn.ensures.turned in
    let long = ap length t.1 ∙ length-append c.closing.self.history (t.0 ∷ []) in
    let counted = i.counted in
    record {
      same = same_again _ _ _ i.same s;
      counted = omega arith;
      bound = omega arith;
      last = λ _. (c.closing.self.history, t.0, t.1, none_of _ (sym c.is_open.ensures ∙ c.closing-test.true));
      later = subst (IsPrefix c.args.self.now.history) (sym t.1) (prefix_longer _ _ (t.0 ∷ []) i.later);
      known = c.if-not-turn.ensures.known;
    }
