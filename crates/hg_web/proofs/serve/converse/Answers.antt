use Rattle.std.proofs.Common.{[], refl, sym, subst, ◌∙◌, IsTrue}
use Rattle.std.proofs.lemmas.Result.{err_from_is_err_and}
use Rattle.http_server.specs.Connection.{history}
use Rattle.http_server.specs.History.{IsServed, Rests}
use Rattle.http_server.proofs.Theorems.{always_served}
use Rattle.hg_web.proofs.Served.{nothing_waits}
use Rattle.hg_web.proofs.Stretches.{all_answered, calls_grow, ends_err, kept_same, not_false, open_still}
use Rattle.hg_web.proofs.Stretches.{waits_all, waits_first, waits_later, waits_read}
use Rattle.hg_web.proofs.Stretches.{went_all, went_kept, went_none, went_on, went_read, went_sent, went_told}
use Rattle.hg_web.proofs.serve.converse.Goals.{then-is_idle+in_ok-flush-2+else-is_whole+else-not-has_room+in_ok-came+else-not-came+else-not-has_spare}
use Rattle.hg_web.proofs.serve.converse.Goals.{else-is_idle}
use Rattle.hg_web.proofs.serve.converse.Goals as goal

pub turns-init : goal.turns-init
turns-init g c = (
  went_none _ _ _ _ (history c.args.connection.now) c.requires.0,
  refl,
  waits_first _ (history c.args.connection.now) c.args.follower.now c.requires.0 c.requires.1 c.requires.2,
)

pub returns-then-has_failed : goal.returns-then-has_failed
returns-then-has_failed g c =
    let inv = c.turns.invariant in
    let a = c.advance-has_answered in
    let h = history a.new.connection in (
      h,
      subst (λ k. ∥ IsServed k h ∥₁) (a.ensures.config ∙ inv.1) (always_served a.new.connection),
      went_on _ _ _ _ _ _ _ _ (history c.turns.connection) h inv.0 a.ensures.calls a.ensures.quiet,
    )

pub returns-then-has_answered : goal.returns-then-has_answered
returns-then-has_answered g c =
    let inv = c.turns.invariant in
    let a = c.advance-has_answered in
    let h = history a.new.connection in (
      h,
      subst (λ k. ∥ IsServed k h ∥₁) (a.ensures.config ∙ inv.1) (always_served a.new.connection),
      went_on _ _ _ _ _ _ _ _ (history c.turns.connection) h inv.0 a.ensures.calls a.ensures.quiet,
    )

pub returns-then-is_aborted : goal.returns-then-is_aborted
returns-then-is_aborted g c =
    let inv = c.turns.invariant in
    let a = c.advance-has_answered in
    let before = history c.turns.connection in (
      before,
      subst (λ k. ∥ IsServed k before ∥₁) inv.1 (always_served c.turns.connection),
      ([], went_told _ _ _ _ _ _ _ _ before [] (a.ensures.none c.if-has_answered.false) inv.0, inv.2),
    )

pub returns-in_err-send_all : goal.returns-in_err-send_all
returns-in_err-send_all g c =
    let inv = c.turns.invariant in
    let a = c.advance-has_answered in
    let h = history a.new.connection in
    let next = history c.send_all.new.connection in
    let err = err_from_is_err_and c.from_residual.result c.from_residual.ensures.1 in
    ends_err _ _ _ _ _ _ _ _ _ _ err.0 err.1 next
    (subst (λ k. ∥ IsServed k next ∥₁) (c.send_all.ensures.config ∙ a.ensures.config ∙ inv.1)
    (always_served c.send_all.new.connection))
    (went_sent _ _ _ _ _ _ _ _ h next
    (went_on _ _ _ _ _ _ _ _ (history c.turns.connection) h inv.0 a.ensures.calls a.ensures.quiet) c.send_all.ensures.sent)

pub returns-in_err-flush : goal.returns-in_err-flush
returns-in_err-flush g c =
    let inv = c.turns.invariant in
    let a = c.advance-has_answered in
    let h = history a.new.connection in
    let next = history c.send_all.new.connection in
    let err = err_from_is_err_and c.from_residual-in_err-flush.result c.from_residual-in_err-flush.ensures.1 in
    ends_err _ _ _ _ _ _ _ _ _ _ err.0 err.1 next
    (subst (λ k. ∥ IsServed k next ∥₁) (c.send_all.ensures.config ∙ a.ensures.config ∙ inv.1)
    (always_served c.send_all.new.connection))
    (went_kept _ _ _ _ _ _ _ _ _ next []
    (went_sent _ _ _ _ _ _ _ _ h next
    (went_on _ _ _ _ _ _ _ _ (history c.turns.connection) h inv.0 a.ensures.calls a.ensures.quiet) c.send_all.ensures.sent)
    (kept_same _) c.flush.ensures.bytes)

pub returns-then-is_done : goal.returns-then-is_done
returns-then-is_done g c =
    let inv = c.turns.invariant in
    let a = c.advance-has_answered in
    let h = history a.new.connection in
    let next = history c.send_all.new.connection in (
      next,
      subst (λ k. ∥ IsServed k next ∥₁) (c.send_all.ensures.config ∙ a.ensures.config ∙ inv.1)
          (always_served c.send_all.new.connection),
      went_kept _ _ _ _ _ _ _ _ _ next []
          (went_sent _ _ _ _ _ _ _ _ h next
          (went_on _ _ _ _ _ _ _ _ (history c.turns.connection) h inv.0 a.ensures.calls a.ensures.quiet)
          c.send_all.ensures.sent) (kept_same _) c.flush.ensures.bytes,
      λ is. absurd (c.is_aborted.ensures c.if-is_aborted.false (sym c.send_all.ensures.sent.state ∙ is)),
      c.is_done.ensures.0 c.if-is_done.true,
    )

pub returns-in_err-flush-2 : goal.returns-in_err-flush-2
returns-in_err-flush-2 g c =
    let inv = c.turns.invariant in
    let a = c.advance-has_answered in
    let h = history a.new.connection in
    let next = history c.send_all.new.connection in
    let err = err_from_is_err_and c.from_residual-in_err-flush-2.result c.from_residual-in_err-flush-2.ensures.1 in
    ends_err _ _ _ _ _ _ _ _ _ _ err.0 err.1 next
    (subst (λ k. ∥ IsServed k next ∥₁) (c.send_all.ensures.config ∙ a.ensures.config ∙ inv.1)
    (always_served c.send_all.new.connection))
    (went_kept _ _ _ _ _ _ _ _ _ next []
    (went_sent _ _ _ _ _ _ _ _ h next
    (went_on _ _ _ _ _ _ _ _ (history c.turns.connection) h inv.0 a.ensures.calls a.ensures.quiet) c.send_all.ensures.sent)
    (kept_same _) c.flush-then-is_idle.ensures.bytes)

pub returns-then-keeps_block : goal.returns-then-keeps_block
returns-then-keeps_block g c =
    let inv = c.turns.invariant in
    let a = c.advance-has_answered in
    let before = history c.turns.connection in
    let h = history a.new.connection in
    let next = history c.send_all.new.connection in
    let sent = c.send_all.ensures.sent in
    let config = a.ensures.config ∙ inv.1 in
    let none = nothing_waits _ h.pending c.wants_write-is_idle.ensures.1 c.if-is_idle.true in
    let still = open_still next c.in_ok-send_all.ensures.all
    (λ done. let wrong = subst IsTrue c.if-is_done.false (c.is_done.ensures.1 done) in cc) in
    let served = subst (λ k. ∥ IsServed k next ∥₁) (c.send_all.ensures.config ∙ config)
    (always_served c.send_all.new.connection) in (
      next,
      served,
      went_kept _ _ _ _ _ _ _ _ _ next []
          (went_sent _ _ _ _ _ _ _ _ h next
          (went_on _ _ _ _ _ _ _ _ before h inv.0 a.ensures.calls a.ensures.quiet) sent)
          (kept_same _) c.flush-then-is_idle.ensures.bytes,
      all_answered _ next h c.turns.is_whole c.turns.follower c.if-is_whole.true served
          (waits_later _ before next c.turns.is_whole c.turns.follower inv.2 (sent.received ∙ a.ensures.quiet.0)
          (calls_grow before.calls h.calls next.calls a.ensures.calls.0 a.ensures.calls.1 sent.calls)
          still c.in_ok-send_all.ensures.all)
          (subst (λ k. Rests k h) config a.ensures.rests) (sym sent.state ∙ still) none sent.received sent.calls,
    )

pub returns-then-not-has_room : goal.returns-then-not-has_room
returns-then-not-has_room g c =
    let inv = c.turns.invariant in
    let a = c.advance-has_answered in
    let before = history c.turns.connection in
    let h = history a.new.connection in
    let next = history c.send_all.new.connection in
    let sent = c.send_all.ensures.sent in
    let still = open_still next c.in_ok-send_all.ensures.all
    (λ done. let wrong = subst IsTrue c.if-is_done.false (c.is_done.ensures.1 done) in cc) in (
      next,
      subst (λ k. ∥ IsServed k next ∥₁) (c.send_all.ensures.config ∙ a.ensures.config ∙ inv.1)
          (always_served c.send_all.new.connection),
      (
        [],
        went_kept _ _ _ _ _ _ _ _ _ next []
            (went_sent _ _ _ _ _ _ _ _ h next
            (went_on _ _ _ _ _ _ _ _ before h inv.0 a.ensures.calls a.ensures.quiet) sent)
            (kept_same _) c.flush-then-is_idle.ensures.bytes,
        waits_later _ before next c.turns.is_whole c.turns.follower inv.2 (sent.received ∙ a.ensures.quiet.0)
            (calls_grow before.calls h.calls next.calls a.ensures.calls.0 a.ensures.calls.1 sent.calls)
            still c.in_ok-send_all.ensures.all,
      ),
    )

pub returns-in_err-came : goal.returns-in_err-came
returns-in_err-came g c =
    let inv = c.turns.invariant in
    let a = c.advance-has_answered in
    let h = history a.new.connection in
    let next = history c.send_all.new.connection in
    let err = err_from_is_err_and c.from_residual-in_err-came.result c.from_residual-in_err-came.ensures.1 in
    ends_err _ _ _ _ _ _ _ _ _ _ err.0 err.1 next
    (subst (λ k. ∥ IsServed k next ∥₁) (c.send_all.ensures.config ∙ a.ensures.config ∙ inv.1)
    (always_served c.send_all.new.connection))
    (went_kept _ _ _ _ _ _ _ _ _ next []
    (went_sent _ _ _ _ _ _ _ _ h next
    (went_on _ _ _ _ _ _ _ _ (history c.turns.connection) h inv.0 a.ensures.calls a.ensures.quiet) c.send_all.ensures.sent)
    c.in_err-came.ensures.err.1 c.flush-then-is_idle.ensures.bytes)

pub returns-then-not-came : goal.returns-then-not-came
returns-then-not-came g c =
    let inv = c.turns.invariant in
    let a = c.advance-has_answered in
    let before = history c.turns.connection in
    let h = history a.new.connection in
    let next = history c.send_all.new.connection in
    let now = history c.read_on.new.connection in
    let sent = c.send_all.ensures.sent in
    let config = a.ensures.config ∙ inv.1 in
    let none = nothing_waits _ h.pending c.wants_write-is_idle.ensures.1 c.if-is_idle.true in
    let still = open_still next c.in_ok-send_all.ensures.all
    (λ done. let wrong = subst IsTrue c.if-is_done.false (c.is_done.ensures.1 done) in cc) in
    let b = c.in_ok-came.ensures.ok in (
      now,
      subst (λ k. ∥ IsServed k now ∥₁) (c.read_on.ensures.config ∙ c.send_all.ensures.config ∙ config)
          (always_served c.read_on.new.connection),
      (
        b.dropped,
        went_told _ _ _ _ _ _ _ _ now b.dropped c.hold_spare-has_spare.ensures
            (went_read _ _ _ _ _ _ _ _ next now _ _ _ _
            (went_kept _ _ _ _ _ _ _ _ _ next []
            (went_sent _ _ _ _ _ _ _ _ h next
            (went_on _ _ _ _ _ _ _ _ before h inv.0 a.ensures.calls a.ensures.quiet) sent)
            (kept_same _) c.flush-then-is_idle.ensures.bytes) b),
        waits_read _ next h now c.turns.is_whole _ _ _ _ _ _
            (waits_later _ before next c.turns.is_whole c.turns.follower inv.2 (sent.received ∙ a.ensures.quiet.0)
            (calls_grow before.calls h.calls next.calls a.ensures.calls.0 a.ensures.calls.1 sent.calls)
            still c.in_ok-send_all.ensures.all)
            (subst (λ k. Rests k h) config a.ensures.rests) (sym sent.state ∙ still) none sent.received sent.calls b,
      ),
    )

pub turns-preserved : goal.turns-preserved
turns-preserved g c =
    let inv = c.turns.invariant in
    let a = c.advance-has_answered in
    let before = history c.turns.connection in
    let h = history a.new.connection in
    let next = history c.send_all.new.connection in
    let sent = c.send_all.ensures.sent in
    let config = a.ensures.config ∙ inv.1 in
    let still = open_still next c.in_ok-send_all.ensures.all
    (λ done. let wrong = subst IsTrue c.if-is_done.false (c.is_done.ensures.1 done) in cc) in
    let went = went_sent _ _ _ _ _ _ _ _ h next
    (went_on _ _ _ _ _ _ _ _ before h inv.0 a.ensures.calls a.ensures.quiet) sent in
    let waits = waits_later _ before next c.turns.is_whole c.turns.follower inv.2 (sent.received ∙ a.ensures.quiet.0)
    (calls_grow before.calls h.calls next.calls a.ensures.calls.0 a.ensures.calls.1 sent.calls)
    still c.in_ok-send_all.ensures.all in
    elim c.if-is_idle.branch [
      | then-is_idle+in_ok-flush-2+else-is_whole+else-not-has_room+in_ok-came+else-not-came+else-not-has_spare w ↦
          let now = history w.read_on.new.connection in
          let none = nothing_waits _ h.pending c.wants_write-is_idle.ensures.1 w.if-is_idle.true in
          let b = w.in_ok-came.ensures.ok in
          let all = b.all (not_false _ w.if-not-came.false) in
          rw (w.connection-is, w.reader-is, w.writer-is, w.follower-is, w.wire-is, w.is_whole-is) (
            went_all _ _ _ _ _ _ _ now b.dropped all
                (went_told _ _ _ _ _ _ _ _ now b.dropped w.hold_spare-has_spare.ensures
                (went_read _ _ _ _ _ _ _ _ next now _ _ _ _
                (went_kept _ _ _ _ _ _ _ _ _ next [] went (kept_same _) w.flush-then-is_idle.ensures.bytes) b)),
            w.read_on.ensures.config ∙ c.send_all.ensures.config ∙ config,
            waits_all _ now b.dropped _ _ all
                (waits_read _ next h now c.turns.is_whole _ _ _ _ _ _ waits
                (subst (λ k. Rests k h) config a.ensures.rests) (sym sent.state ∙ still) none sent.received sent.calls b),
          )
      | else-is_idle w ↦ rw (w.connection-is, w.reader-is, w.writer-is, w.follower-is, w.wire-is, w.is_whole-is)
          (went, c.send_all.ensures.config ∙ config, waits)
    ]

pub returns : goal.returns
returns g c =
    let inv = c.turns.invariant in
    let h = history c.turns.connection in
    (h, subst (λ k. ∥ IsServed k h ∥₁) inv.1 (always_served c.turns.connection), inv.0)
