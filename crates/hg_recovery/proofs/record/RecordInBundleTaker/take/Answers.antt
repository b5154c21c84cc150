use Rattle.std.proofs.Common.{◌∙◌, Err, true, ap, arith, refl}
use Rattle.hg_recovery.proofs.Taking.{failed_more, took_more}
use Rattle.hg_recovery.proofs.record.RecordInBundleTaker.take.Goals as goal

pub returns-then-count-piece : goal.returns-then-count-piece
returns-then-count-piece g c = λ first bytes taken. (
  took_more c.args.self.now.bundle c.feed.new.self c.args.self.now.is_past bytes c.args.piece.now taken.0
      c.in-Ok.count true c.in-Ok.ensures.count c.in-Ok.ensures.all c.in-Ok.ensures.ok c.in-Ok.ensures.goes_on
      (λ fault failed. let said = c.feed.ensures.still_failed fault failed in cc (said.0, c.in-Ok.is))
      (λ ended. let said = c.feed.ensures.still_ended ended in (cc (said.0, c.in-Ok.is), said.1))
      (λ few. refl) (λ all. absurd (omega (arith, all, c.if-count-piece.true))),
  c.feed.ensures.limits ∙ taken.1,
)

pub returns-else-count-piece : goal.returns-else-count-piece
returns-else-count-piece g c = λ first bytes taken. (
  took_more c.args.self.now.bundle c.feed.new.self c.args.self.now.is_past bytes c.args.piece.now taken.0
      c.in-Ok.count c.args.self.now.is_past c.in-Ok.ensures.count c.in-Ok.ensures.all c.in-Ok.ensures.ok
      c.in-Ok.ensures.goes_on
      (λ fault failed. let said = c.feed.ensures.still_failed fault failed in cc (said.0, c.in-Ok.is))
      (λ ended. let said = c.feed.ensures.still_ended ended in (cc (said.0, c.in-Ok.is), said.1))
      (λ few. absurd (omega (arith, few, c.if-count-piece.false))) (λ all. refl),
  c.feed.ensures.limits ∙ taken.1,
)

pub returns-in_default : goal.returns-in_default
returns-in_default g c = λ first bytes taken. (
  failed_more c.args.self.now.bundle c.feed.new.self c.args.self.now.is_past bytes c.args.piece.now taken.0
      c.in_default.field-0 c.in_default.ensures.err c.in_default.ensures.failed
      (λ reads cut. c.feed.ensures.not_truncated reads (c.in_default.is ∙ ap Err cut))
      (λ ended. let said = c.feed.ensures.still_ended ended in cc (said.0, c.in_default.is))
      (λ old failed. (c.feed.ensures.still_failed old failed).1),
  c.feed.ensures.limits ∙ taken.1,
)
