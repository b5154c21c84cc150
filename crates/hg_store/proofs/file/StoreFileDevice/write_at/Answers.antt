use Rattle.std.proofs.Common.{[], ◌∷◌, is_ok, subst}
use Rattle.hg_store.specs.Calls.{MayLeave, gave_up, state_of, wrote}
use Rattle.hg_store.proofs.FileSteps.{write_leaves}
use Rattle.hg_store.proofs.file.StoreFileDevice.write_at.Goals as goal

pub returns-clause-crash : goal.returns-clause-crash
returns-clause-crash g c = λ left may.
    write_leaves (g.C.Calls.history c.args.self.now.calls) c.args.at c.args.bytes.now (is_ok c.write-answer.result)
    c.requires left (subst (λ calls. MayLeave (state_of calls) left) c.write-answer.ensures may)

pub returns-then-self-clause-same_file : goal.returns-then-self-clause-same_file
returns-then-self-clause-same_file g c = (gave_up ∷ [], c.refuse.ensures)

pub returns-clause-same_file : goal.returns-clause-same_file
returns-clause-same_file g c =
    (wrote c.args.at c.args.bytes.now (is_ok c.write-answer.result) ∷ [], c.write-answer.ensures)
