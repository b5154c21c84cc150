use Rattle.std.proofs.Common.{arith}
use Rattle.hg_repo.proofs.FewReplies.{run_of-adds}
use Rattle.hg_repo.proofs.laws.done_runs_leave_few_replies.Goals as goal

pub returns-clause-few : goal.returns-clause-few
returns-clause-few g c = λ source repo parts new done is.
    let few = (run_of-adds c.replies_have_no_payload.ensures source repo parts new done is).few in
    omega (arith, few)

pub returns-clause-bare : goal.returns-clause-bare
returns-clause-bare g c = λ source repo parts new done is.
    (run_of-adds c.replies_have_no_payload.ensures source repo parts new done is).bare
    (λ k d low. absurd (omega (arith, low)))
