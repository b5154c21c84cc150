use Rattle.std.proofs.Common.{[], ◌∷◌, is_ok, subst}
use Rattle.hg_store.specs.Calls.{MayLeave, gave_up, shortened, state_of}
use Rattle.hg_store.proofs.FileSteps.{cut_leaves, cut_refused}
use Rattle.hg_store.proofs.file.StoreFileDevice.cut.Goals as goal

pub returns-then-self-clause-crash : goal.returns-then-self-clause-crash
returns-then-self-clause-crash g c = λ left may.
    cut_refused (MayLeave (state_of (g.C.Calls.history c.args.self.now.calls))) c.args.len left
    (subst (λ calls. MayLeave (state_of calls) left) c.refuse.ensures may)

pub returns-clause-crash : goal.returns-clause-crash
returns-clause-crash g c = λ left may.
    cut_leaves (g.C.Calls.history c.args.self.now.calls) c.args.len (is_ok c.shorten-answer.result) c.requires left
    (subst (λ calls. MayLeave (state_of calls) left) c.shorten-answer.ensures may)

pub returns-then-self-clause-same_file : goal.returns-then-self-clause-same_file
returns-then-self-clause-same_file g c = (gave_up ∷ [], c.refuse.ensures)

pub returns-clause-same_file : goal.returns-clause-same_file
returns-clause-same_file g c = (shortened c.args.len (is_ok c.shorten-answer.result) ∷ [], c.shorten-answer.ensures)
