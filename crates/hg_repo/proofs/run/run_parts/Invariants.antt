use Rattle.std.proofs.Common.{◌≤◌, ◌+◌, length, vec_len, vec_capacity}
use Rattle.hg_parts.specs.Store.{repository_of, IsSound, IsGrown}
use Rattle.hg_repo.specs.Replies.{AreReplies}
use Rattle.hg_repo.proofs.Runs.{IsReached}
use Rattle.hg_repo.proofs.run.run_parts.Given as goal

-- the parts so far are handled, what they left is kept, and there is room for the places of the others
abbrev pub invariant-loop-place : goal.invariant-loop-place
invariant-loop-place g l = record {
  sound : IsSound l.settings l.store;
  grown : IsGrown l.initial.store l.store;
  replies : AreReplies l.place l.replies;
  reached : IsReached l.source (repository_of l.settings l.initial.store) l.parts l.place
      (record {
        repo = repository_of l.settings l.store;
        replying = l.replying;
        replies = l.replies;
        handled = l.handled.items;
      });
  room : vec_len l.handled + length l.parts ≤ vec_capacity l.handled + l.place;
}
