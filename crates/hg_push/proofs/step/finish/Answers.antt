use Rattle.std.proofs.Common.{ℕ, ◌++◌, ◌∷◌, [], refl, sym, ◌∙◌, ap, subst}
use Rattle.hg_push.specs.Rows.{Stages}
use Rattle.hg_push.specs.Run.{run_push}
use Rattle.hg_push.proofs.Staging.{push_aborted, push_done}
use Rattle.hg_push.proofs.step.finish.Goals as goal

pub returns-in-Ok-clause-steps : goal.returns-in-Ok-clause-steps
returns-in-Ok-clause-steps g c =
    push_done run_push (record { repo = c.args.repo.now; journal = c.args.journal.now.items }) c.args.row.now
    c.close.new.row
    c.args.index c.in-Ok.done
    (record { repo = c.end-ended.new.repo; journal = c.push_reserved.new.self.items })
    (c.close.ensures.push ∙ c.take_staged-staged.ensures.push) c.close.ensures.state
    (c.push_reserved.ensures.items
    ∙ ap (λ (push : ℕ). c.args.journal.now.items ++ push ∷ []) c.take_staged-staged.ensures.push)
    (λ ps staged. c.in-Ok.ensures.ends ps
    (subst (λ l. Stages l ps) (sym c.take_staged-staged.ensures.staged) staged))

pub returns-in-Err-clause-steps : goal.returns-in-Err-clause-steps
returns-in-Err-clause-steps g c =
    push_aborted run_push (record { repo = c.args.repo.now; journal = c.args.journal.now.items })
    c.args.row.now c.close-in-Err.new.row
    c.args.index c.in-Err.reason (record { repo = c.end-ended.new.repo; journal = c.args.journal.now.items })
    c.is_no_memory-refused.result
    (c.close-in-Err.ensures.push ∙ c.take_staged-staged.ensures.push) c.close-in-Err.ensures.state refl
    c.is_no_memory-refused.ensures
    (λ ps staged. c.in-Err.ensures.ends ps
    (subst (λ l. Stages l ps) (sym c.take_staged-staged.ensures.staged) staged))
